-- What receiving over a link keeps between two pieces.
use Rattle.std.specs.Prelude.{◌≡◌, ◌≤◌, ℕ, List, [], ◌++◌, length, Option, Some, None}
use Rattle.std.specs.Option.{option_map}
use Rattle.ldm_rpc.specs.Streams.{Position}
use Rattle.ldm_outside.specs.Clock.{Answers, ClockRecord}
use Rattle.ldm_outside.specs.Count.{Rose}
use Rattle.ldm_outside.specs.Io.{SinkRecord, Takes as TakesBytes}
use Rattle.ldm_outside.specs.declared.io.Got.{Got}
use Rattle.ldm_outside.specs.declared.io.Got.TheVariants as got
use Rattle.ldm_outside.specs.declared.link.Way.TheVariants as way
use Rattle.ldm_outside.specs.Link.{LinkRecord, then_all, then_piece}
use Rattle.ldm_outside.specs.Session.{SessionRecord, no_gate}
use Rattle.ldm_shared.specs.Passes.{PassView}
use Rattle.ldm_session.specs.Exchange.{Exchanged}
use Rattle.ldm_intake.specs.declared.end.RecvEnd.{RecvEnd}
use Rattle.ldm_intake.specs.declared.end.RecvEnd.TheVariants.{LinkFault, LogFault}
use Rattle.ldm_intake.specs.Receiving.{Receiving}
use Rattle.ldm_intake.specs.TakesRecord.{Standing, stands}
use Rattle.ldm_downstream.specs.declared.limits.TheConstants.{LONGEST_PIECE}
use Rattle.ldm_downstream.specs.Answering.{TakesRounds, place_of}
use Rattle.ldm_downstream.specs.Pieces.{Piece}
use Rattle.ldm_downstream.specs.Pushing.{Continues}
use Rattle.ldm_downstream.specs.ReceiverView.{ReceiverView}
use Rattle.ldm_downstream.specs.Receives.{Passed, Receives}

-- the outside of a receiving, by what its parts tell
abbrev pub outside_of : LinkRecord → SinkRecord → ClockRecord → SessionRecord
outside_of link log clock = record { link = link; log = log; clock = clock; gate = no_gate }

-- no more bytes came than so many
abbrev pub IsFew : Got → ℕ → Type 0
IsFew (got.Bytes n) most = n ≤ most
IsFew got.End most = Unit {0}
IsFew got.Failed most = Unit {0}

-- just these bytes were sent, where the link tells what passed
abbrev pub PassesSent : List ℕ → LinkRecord → LinkRecord → Type 0
PassesSent bytes old new = new.passed ≡ option_map (then_all way.Sent bytes) old.passed

-- just this piece came, with one call, where the link tells what passed
abbrev pub PassesPiece : List ℕ → LinkRecord → LinkRecord → Type 0
PassesPiece bytes old new = new.passed ≡ option_map (then_piece bytes) old.passed

-- Bytes that the peer is owed were sent, and log lines were written.
pub record Writes (sent lines : List ℕ) (link new_link : LinkRecord) (log new_log : SinkRecord) : Type 0 where
  pub exchanged : Exchanged link sent [] new_link
  pub sends : PassesSent sent link new_link
  pub logged : TakesBytes log lines new_log

-- a front of some bytes
pub record IsFront (front all : List ℕ) : Type 0 where
  pub rest : List ℕ
  pub is : front ++ rest ≡ all

pub record FailsToSend (out : List ℕ) (link new_link : LinkRecord) (log new_log : SinkRecord) : Type 0 where
  pub sent : List ℕ
  pub front : IsFront sent out
  pub writes : Writes sent [] link new_link log new_log
  pub rose : Rose link.faults new_link.faults

pub record FailsToLog (out notes : List ℕ) (link new_link : LinkRecord) (log new_log : SinkRecord) : Type 0 where
  pub lines : List ℕ
  pub front : IsFront lines notes
  pub writes : Writes out lines link new_link log new_log
  pub rose : Rose log.faults new_log.faults

-- What sending and writing came to: all of both; or the link failed, after a front of what was to be sent; or the log failed, after all
-- was sent and a front of the lines was written.
abbrev pub WritesAt : Option RecvEnd → (out notes : List ℕ) → (link new_link : LinkRecord) → (log new_log : SinkRecord) → Type 0
WritesAt None out notes link new_link log new_log = Writes out notes link new_link log new_log
WritesAt (Some LinkFault) out notes link new_link log new_log = FailsToSend out link new_link log new_log
WritesAt (Some LogFault) out notes link new_link log new_log = FailsToLog out notes link new_link log new_log
WritesAt (Some _) out notes link new_link log new_log = ⊥

-- A receiving went on over some pieces: all that the peer was owed was sent, in turn, and all lines were written.
pub record Advances (ahead : List ℕ) (p q : Position) (old new : Standing) (before after : SessionRecord) : Type 0 where
  pub pieces : List Piece
  pub continues : Continues pieces p q old new
  pub passed : Passed ahead pieces new.out new.notes before after
  pub first_is : passed.first ≡ old.out
  pub in_turn : TakesRounds ahead passed.rounds (place_of p old) (place_of q new)

-- Since then a piece came, and nothing else happened: it has the bytes that came ahead, and behind them those that the link gave, and the
-- clock answered its moment.
pub record HasCome (ahead : List ℕ) (piece : Piece) (begins now : SessionRecord) : Type 0 where
  pub given : List ℕ
  pub all : piece.bytes ≡ ahead ++ given
  pub few : length given ≤ LONGEST_PIECE
  pub exchanged : Exchanged begins.link [] given now.link
  pub gave : PassesPiece given begins.link now.link
  pub faults : now.link.faults ≡ begins.link.faults
  pub log : now.log ≡ begins.log
  pub moment : Answers piece.now begins.clock now.clock

-- before a piece: all that was owed was sent
abbrev pub settled : Receiving → PassView → Standing
settled s pass = stands s pass [] []

-- it goes on
pub record RunsOn (ahead : List ℕ) (receiver : ReceiverView) (pass : PassView) (p : Position) (old : Standing) (before after : SessionRecord) : Type 0 where
  pub at : Standing
  pub advances : Advances ahead p receiver.hand old at before after
  pub receiving : at.receiving ≡ receiver.receiving
  pub pass_is : at.pass ≡ pass
  pub live : receiver.end ≡ None

-- it ended so
pub record RunsOut (end : RecvEnd) (ahead : List ℕ) (receiver : ReceiverView) (pass : PassView) (p : Position) (old : Standing) (before after : SessionRecord) : Type 0 where
  pub at_end : Standing
  pub receives : Receives end ahead p old at_end before after
  pub receiving : at_end.receiving ≡ receiver.receiving
  pub pass_is : at_end.pass ≡ pass

abbrev pub Rounds : Option RecvEnd → (ahead : List ℕ) → ReceiverView → PassView → Position → Standing → SessionRecord → SessionRecord → Type 0
Rounds None ahead receiver pass p old before after = RunsOn ahead receiver pass p old before after
Rounds (Some end) ahead receiver pass p old before after = RunsOut end ahead receiver pass p old before after

-- nothing is owed and nothing is to be logged
pub record IsReady (out notes : List ℕ) : Type 0 where
  pub no_out : out ≡ []
  pub no_notes : notes ≡ []
