-- Visits: the door lets a peer in, and over its link a session is served.
use Rattle.std.specs.Prelude.{◌≡◌, ℕ, Bool, List}
use Rattle.ldm_class.specs.Rules.{Rules}
use Rattle.ldm_outside.specs.declared.door.Came.{Came}
use Rattle.ldm_outside.specs.declared.door.Came.TheVariants.{Peer}
use Rattle.ldm_outside.specs.Door.{DoorRecord, AcceptGives, DoorTakesBack}
use Rattle.ldm_outside.specs.Io.{SinkRecord}
use Rattle.ldm_outside.specs.Link.{LinkRecord}
use Rattle.ldm_outside.specs.Session.{SessionRecord}
use Rattle.ldm_outside.specs.Station.{StationRecord}
use Rattle.ldm_shared.specs.Passes.{PassView}
use Rattle.ldm_serve.specs.declared.end.ServeEnd.{ServeEnd}
use Rattle.ldm_serve.specs.Connection.{moment_of}
use Rattle.ldm_serve.specs.Serve.{ServesAll}
use Rattle.ldm_serve.specs.Client.{Client}
use Rattle.ldm_node.specs.Lines.{Logs, session_line}
use Rattle.ldm_node.specs.ServingEnds.{end_of_serving}
use Rattle.ldm_node.specs.DoorMoments.{DoorMoment, with_door}

-- A peer that came: its host, and how its session ended.
pub record Visit : Type 0 where
  pub host : List ℕ
  pub end : ServeEnd

abbrev pub visit_of : List ℕ → ServeEnd → Visit
visit_of host end = record { host = host; end = end }

-- the line of its session
abbrev pub line_of : Visit → List ℕ
line_of visit = session_line visit.host (end_of_serving visit.end)

-- who is served: the host by the rules, with a pass, whose arena is that of its queue
abbrev pub client_of : Rules → List ℕ → PassView → Client
client_of rules host pass = record { rules = rules; host = host; actor = pass.actor; arena = pass.arena }

-- what a session uses: the link, and of a station the log, the clock and the gate
abbrev pub outside : LinkRecord → SinkRecord → StationRecord → SessionRecord
outside link log station = record { link = link; log = log; clock = station.clock; gate = station.gate }

-- Over a link that came a session was served to its end. The link was given back as it was left, and then the log took the line:
-- all of it, or a front, perhaps nothing. The dial was not touched.
pub record Holds (whole : Bool) (rules : Rules) (visit : Visit) (came : LinkRecord) (old new : DoorMoment) : Type 0 where
  pub left : LinkRecord
  pub log : SinkRecord
  pub serves : ServesAll visit.end (client_of rules visit.host old.pass)
      (moment_of old.pass (outside came old.station.log old.station)) (moment_of new.pass (outside left log new.station))
  pub given_back : DoorTakesBack left old.station.door new.station.door
  pub logged : Logs whole (line_of visit) log new.station.log
  pub same : new.station ≡ record new.station { dial = old.station.dial }

-- a peer of that host, with that link
abbrev pub peer_of : List ℕ → LinkRecord → Came LinkRecord
peer_of host link = Peer (record { items = host }) link

-- The door let a peer in, with a link that was not used yet, and over it a session was served.
pub record Admits (whole : Bool) (rules : Rules) (visit : Visit) (old new : DoorMoment) : Type 0 where
  pub came : LinkRecord
  pub lent : DoorRecord
  pub accepted : AcceptGives (λ (link : LinkRecord). link) (peer_of visit.host came) old.station.door lent
  pub holds : Holds whole rules visit came (with_door lent old) new
