-- Tries: a host is dialled, and where a link comes, a session is held over it.
use Rattle.std.specs.Prelude.{◌≡◌, ℕ, Bool, List, [], Option, None}
use Rattle.ldm_outside.specs.declared.dial.Dialled.TheVariants.{Linked, Failed}
use Rattle.ldm_outside.specs.Clock.{ClockRecord}
use Rattle.ldm_outside.specs.Dial.{Asked, DialRecord, ConnectGives, DialTakesBack}
use Rattle.ldm_outside.specs.Io.{SinkRecord}
use Rattle.ldm_outside.specs.Link.{LinkRecord}
use Rattle.ldm_outside.specs.Session.{SessionRecord, no_gate}
use Rattle.ldm_conf.specs.Confs.{RequestView}
use Rattle.ldm_conf.specs.Transfers.{max_hereis}
use Rattle.ldm_intake.specs.declared.end.RecvEnd.{RecvEnd}
use Rattle.ldm_intake.specs.Opening.{requesting}
use Rattle.ldm_intake.specs.Receiving.{Receiving}
use Rattle.ldm_downstream.specs.Complete.{Completes}
use Rattle.ldm_downstream.specs.Receives.{ReceivesAll}
use Rattle.ldm_node.specs.declared.stop.NodeStop.{NodeStop}
use Rattle.ldm_node.specs.SessionEnds.{end_of_receiving, stop_of_receiving}
use Rattle.ldm_node.specs.Lines.{Logs, session_line, unreached_line}
use Rattle.ldm_node.specs.RequestMoments.{RequestMoment, with_dial}

-- What a try came to: the dial failed; or there was a session, with its end, and the signature of the last product before it and
-- behind it, if there was one.
pub data Try : Type 0 where
  Unreached : Try
  Session : (end : RecvEnd) (before behind : Option (List ℕ)) → Try

-- whom the dial is asked for
abbrev pub peer_of : RequestView → Asked
peer_of request = record { host = request.host; port = request.port }

-- what is asked of it, behind the last product, and which products are to come whole
abbrev pub asking : RequestView → Option (List ℕ) → Receiving
asking request last = requesting request.class last (max_hereis request.transfer)

-- what a session uses, which asks no gate
abbrev pub outside : LinkRecord → SinkRecord → ClockRecord → SessionRecord
outside link log clock = record { link = link; log = log; clock = clock; gate = no_gate }

-- The dial failed, and the log took the line: all of it, or a front.
pub record Misses (whole : Bool) (request : RequestView) (old new : RequestMoment) : Type 0 where
  pub dialled : ConnectGives (λ (link : LinkRecord). link) Failed (peer_of request) old.station.dial new.station.dial
  pub logged : Logs whole (unreached_line request.host) old.station.log new.station.log
  pub same : new ≡ record old { station = record old.station { dial = new.station.dial; log = new.station.log } }

-- Over a link that came the products of the request were received, behind the last one. The link was given back as it was left, and
-- then the log took the line: all of it, or a front, perhaps nothing.
pub record Holds (whole : Bool) (end : RecvEnd) (request : RequestView) (came : LinkRecord) (old new : RequestMoment) : Type 0 where
  pub left : LinkRecord
  pub log : SinkRecord
  pub receives : ReceivesAll end new.last (asking request old.last) [] old.pass new.pass
      (outside came old.station.log old.station.clock) (outside left log new.station.clock)
  pub completes : Completes end (asking request old.last) [] old.pass new.pass
      (outside came old.station.log old.station.clock) (outside left log new.station.clock)
  pub given_back : DialTakesBack left old.station.dial new.station.dial
  pub logged : Logs whole (session_line request.host (end_of_receiving end)) log new.station.log
  pub same : new.station ≡ record old.station { dial = new.station.dial; log = new.station.log; clock = new.station.clock }

-- The dial connected a link that was not used yet, and over it a session was held.
pub record Meets (whole : Bool) (end : RecvEnd) (request : RequestView) (old new : RequestMoment) : Type 0 where
  pub came : LinkRecord
  pub lent : DialRecord
  pub dialled : ConnectGives (λ (link : LinkRecord). link) (Linked came) (peer_of request) old.station.dial lent
  pub holds : Holds whole end request came (with_dial lent old) new

-- One try, at the end of which the log took its line: all of it, or a front.
abbrev pub TriesOnce : (whole : Bool) → RequestView → Try → RequestMoment → RequestMoment → Type 0
TriesOnce whole request Unreached old new = Misses whole request old new
TriesOnce whole request (Session end before behind) old new =
    Meets whole end request old new × (before ≡ old.last) × (behind ≡ new.last)

-- whether the end of a try is that of the worker
abbrev pub stop_behind : Try → Option NodeStop
stop_behind Unreached = None
stop_behind (Session end before behind) = stop_of_receiving end
