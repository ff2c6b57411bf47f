-- What a gathering does, from its beginning to its end: piece by piece, as plain data.
use Rattle.std.specs.Prelude.{◌≡◌, ◌⊎◌, ℕ, ◌<◌, ◌≤◌, List, [], ◌∷◌, ◌++◌, length, Some, None, false}
use Rattle.ldm_outside.specs.declared.io.Got.TheVariants.{End}
use Rattle.ldm_outside.specs.Clock.{Answers}
use Rattle.ldm_outside.specs.Count.{Rose}
use Rattle.ldm_outside.specs.Io.{Takes, WritesFront}
use Rattle.ldm_outside.specs.Link.{Failing, Gave, RecvGives, Sent, after_sent}
use Rattle.ldm_intake.specs.declared.end.RecvEnd.{RecvEnd}
use Rattle.ldm_intake.specs.declared.end.RecvEnd.TheVariants.{Ended, Truncated, BadFrame, Refused, LinkFault, LogFault, StreamLimit, Worn, OutOfMemory}
use Rattle.ldm_intake.specs.Opening.{request_of}
use Rattle.ldm_intake.specs.Receiving.{Receiving}
use Rattle.ldm_relay.specs.Spelling.{records_of}
use Rattle.ldm_intake.specs.TakesRecord.{stands}
use Rattle.ldm_downstream.specs.Pieces.{Piece}
use Rattle.ldm_downstream.specs.Pushing.{EndsAt, PushesAt}
use Rattle.ldm_downstream.specs.ReceiverView.{ReceiverView, before_stream}
use Rattle.ldm_gather.specs.declared.end.GatherEnd.{GatherEnd}
use Rattle.ldm_gather.specs.declared.end.GatherEnd.TheVariants.{Received, Enough, Stopped}
use Rattle.ldm_gather.specs.declared.end.Handled.{Handled}
use Rattle.ldm_gather.specs.declared.end.Handled.TheVariants as handled
use Rattle.ldm_gather.specs.Scene.{Scene, Lent, GatherMoment, moment_of}

module _ {W A B : Type 0} where
  -- ---- what a piece does

  -- A piece came: the link gave its bytes, and the clock was asked once, for its moment. The receiver was pushed it, so the peer is owed
  -- `out`, and `notes` are to be logged.
  pub record Comes (piece : Piece) (out notes : List ℕ) (old new : GatherMoment W A B) : Type 0 where
    pub some : 0 < length piece.bytes
    pub gave : Gave old.link piece.bytes new.link
    pub asked : Answers piece.now old.clock new.clock
    pub pushes : PushesAt old.receiver.end piece old.receiver new.receiver
        (stands old.receiver.receiving old.scene.pass [] []) (stands new.receiver.receiving new.scene.pass out notes)
    pub others : new.scene ≡ record old.scene { pass = new.scene.pass }

  -- What the peer is owed was sent, and the lines were written.
  pub record Tells (out notes : List ℕ) (old new : GatherMoment W A B) : Type 0 where
    pub sent : Sent old.link out new.link
    pub logged : Takes old.scene.log notes new.scene.log
    pub log_kept : old.scene.log.faults ≤ new.scene.log.faults
    pub others : new ≡ record old { link = new.link; scene = record old.scene { log = new.scene.log } }

  -- The link failed, after a front of what the peer is owed was sent, and no line was written.
  pub record SendsFront (out : List ℕ) (old new : GatherMoment W A B) : Type 0 where
    pub front : List ℕ
    pub rest : List ℕ
    pub all : front ++ rest ≡ out
    pub failing : Failing (after_sent front old.link) new.link
    pub others : new ≡ record old { link = new.link }

  -- What the peer is owed was sent, and the log failed, after a front of the lines was written.
  pub record LogsFront (out notes : List ℕ) (old new : GatherMoment W A B) : Type 0 where
    pub sent : Sent old.link out new.link
    pub rose : Rose old.scene.log.faults new.scene.log.faults
    pub front : WritesFront old.scene.log notes new.scene.log
    pub others : new ≡ record old { link = new.link; scene = record old.scene { log = new.scene.log } }

  -- The link failed, and no piece came.
  pub record GivesNone (old new : GatherMoment W A B) : Type 0 where
    pub failing : Failing old.link new.link
    pub others : new ≡ record old { link = new.link }

  -- The link said that the stream is at its end, and has nothing left.
  pub record IsAtEnd (old new : GatherMoment W A B) : Type 0 where
    pub given : RecvGives End [] old.link new.link
    pub others : new ≡ record old { link = new.link }

  -- The receiver came to its end with the stream.
  pub record EndsStream (end : RecvEnd) (old new : GatherMoment W A B) : Type 0 where
    pub at_end : GatherMoment W A B
    pub is_at_end : IsAtEnd old at_end
    pub ends : EndsAt at_end.receiver.end end at_end.receiver at_end.scene.pass new.scene.pass
    pub others : new ≡ record at_end { scene = record at_end.scene { pass = new.scene.pass } }

  -- The sending failed behind a piece, or the log did.
  pub record FailsToSend (old new : GatherMoment W A B) : Type 0 where
    pub piece : Piece
    pub out : List ℕ
    pub notes : List ℕ
    pub pushed : GatherMoment W A B
    pub comes : Comes piece out notes old pushed
    pub sends : SendsFront out pushed new

  pub record FailsToLog (old new : GatherMoment W A B) : Type 0 where
    pub piece : Piece
    pub out : List ℕ
    pub notes : List ℕ
    pub pushed : GatherMoment W A B
    pub comes : Comes piece out notes old pushed
    pub logs : LogsFront out notes pushed new

module _ {W A B : Type 0} (handles : Handled → Scene W A B → Scene W A B → Type 0) where
  -- The handler was called, and answered so.
  pub record Handles (answer : Handled) (old new : GatherMoment W A B) : Type 0 where
    pub handled : handles answer old.scene new.scene
    pub log_kept : old.scene.log.faults ≤ new.scene.log.faults
    pub others : new ≡ record old { scene = new.scene }

  -- A piece came and was pushed, what it made was sent and written, and then the handler was called.
  pub record TakesPiece (piece : Piece) (answer : Handled) (old new : GatherMoment W A B) : Type 0 where
    pub out : List ℕ
    pub notes : List ℕ
    pub pushed : GatherMoment W A B
    pub told : GatherMoment W A B
    pub comes : Comes piece out notes old pushed
    pub tells : Tells out notes pushed told
    pub handles_it : Handles answer told new

  -- A piece behind which it goes on.
  pub record Steps (piece : Piece) (old new : GatherMoment W A B) : Type 0 where
    pub takes : TakesPiece piece handled.On old new
    pub live : new.receiver.end ≡ None

  -- pieces, one after another, behind each of which it goes on
  abbrev pub GoesOn : List Piece → GatherMoment W A B → GatherMoment W A B → Type 0
  GoesOn [] old new = new ≡ old
  GoesOn (piece ∷ pieces) old new = (mid : GatherMoment W A B) × Steps piece old mid × GoesOn pieces mid new

  -- ---- how it ends behind them

  -- The receiver is over by the last piece. That was handled too.
  pub record IsOver (end : RecvEnd) (old new : GatherMoment W A B) : Type 0 where
    pub piece : Piece
    pub takes : TakesPiece piece handled.On old new
    pub over : new.receiver.end ≡ Some end

  -- The handler ended it, behind the last piece.
  pub record HandlesLast (answer : Handled) (old new : GatherMoment W A B) : Type 0 where
    pub piece : Piece
    pub takes : TakesPiece piece answer old new

  abbrev pub EndsBy : GatherEnd → GatherMoment W A B → GatherMoment W A B → Type 0
  EndsBy (Received Ended) old new = EndsStream Ended old new
  EndsBy (Received (Truncated at)) old new = EndsStream (Truncated at) old new
  EndsBy (Received (BadFrame at)) old new = IsOver (BadFrame at) old new
  EndsBy (Received (Refused answer)) old new = IsOver (Refused answer) old new
  EndsBy (Received StreamLimit) old new = IsOver StreamLimit old new
  EndsBy (Received LinkFault) old new = GivesNone old new ⊎ FailsToSend old new
  EndsBy (Received LogFault) old new = FailsToLog old new
  EndsBy (Received OutOfMemory) old new = IsOver OutOfMemory old new
  -- the queue had all its calls, by a piece or where a reservation was to be given up at the stream's end
  EndsBy (Received Worn) old new = IsOver Worn old new ⊎ EndsStream Worn old new
  EndsBy Enough old new = HandlesLast handled.Enough old new
  EndsBy Stopped old new = HandlesLast handled.Stopped old new

  -- Pieces came, behind each of which it went on, and then it ended so.
  pub record Gathers (end : GatherEnd) (old new : GatherMoment W A B) : Type 0 where
    pub pieces : List Piece
    pub last : GatherMoment W A B
    pub goes_on : GoesOn pieces old last
    pub ends : EndsBy end last new

  -- ---- all of it

  -- The request was sent, and then pieces came.
  pub record Asks (end : GatherEnd) (old new : GatherMoment W A B) : Type 0 where
    pub asked : GatherMoment W A B
    pub sent : Sent old.link (records_of (request_of old.receiver.receiving)) asked.link
    pub others : asked ≡ record old { link = asked.link }
    pub gathers : Gathers end asked new

  -- It did not come to that: the link failed, after a front of the request.
  abbrev pub BeginsNot : GatherEnd → GatherMoment W A B → GatherMoment W A B → Type 0
  BeginsNot (Received LinkFault) old new = SendsFront (records_of (request_of old.receiver.receiving)) old new
  BeginsNot _ old new = ⊥

  -- A gathering, from its beginning to its end.
  pub record GathersAll (end : GatherEnd) (s : Receiving) (old new : Lent W A B) : Type 0 where
    -- the receiver, as it is left
    pub receiver : ReceiverView
    pub gathers : Asks end (moment_of (before_stream s false) old) (moment_of receiver new) ⊎ BeginsNot end (moment_of (before_stream s false) old) (moment_of receiver new)
