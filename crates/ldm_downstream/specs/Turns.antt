-- What a receiver does with the bytes of one piece.
use Rattle.std.specs.Prelude.{◌≡◌, ◌⊎◌, ℕ, ◌+◌, ◌<◌, ◌≤◌, true, false, List, [], ◌∷◌, length, Option, Some, None, Result, Ok, Err}
use Rattle.ldm_rpc.specs.Reading.{after, bytes_taken, is_faulty}
use Rattle.ldm_rpc.specs.Streams.{Position, forgets, given, records_in, in_hand}
use Rattle.ldm_shared.specs.declared.steps.TheConstants.{MOST_TURNS}
use Rattle.ldm_rpc.specs.declared.fault.RpcFault.{RpcFault}
use Rattle.ldm_rpc.specs.declared.fault.RpcFault.TheVariants as rpc_fault
use Rattle.ldm_intake.specs.declared.record_end.AnswerEnd.{AnswerEnd}
use Rattle.ldm_intake.specs.declared.record_end.AnswerEnd.TheVariants as answer_end
use Rattle.ldm_intake.specs.declared.record_end.MessageEnd.{MessageEnd}
use Rattle.ldm_intake.specs.declared.record_end.MessageEnd.TheVariants as message_end
use Rattle.ldm_intake.specs.declared.end.RecvEnd.{RecvEnd}
use Rattle.ldm_intake.specs.declared.end.RecvEnd.TheVariants.{Ended, Truncated, BadFrame, Refused, LinkFault, LogFault, StreamLimit, Worn, OutOfMemory}
use Rattle.ldm_intake.specs.Taken.{Arrival, taken, taken_none}
use Rattle.ldm_downstream.specs.Pieces.{Piece, arrived, arrivals, hand}
use Rattle.ldm_intake.specs.TakesRecord.{Standing}
use Rattle.ldm_downstream.specs.Taking.{Takes, BreaksOff}
use Rattle.ldm_downstream.specs.Received.{end_behind}

-- All of these records were taken, and the receiving goes on.
abbrev pub TakesAll : List Arrival → Standing → Standing → Type 0
TakesAll arrivals old new = Takes (taken (taken_none old.receiving) arrivals) None old new

-- These records were taken, up to one that ended it, or all of them; and then what is in hand behind them ended it.
pub record EndsIn (end : RecvEnd) (arrivals : List Arrival) (p : Position) (old new : Standing) : Type 0 where
  pub by_record : Option RecvEnd
  pub takes : Takes (taken (taken_none old.receiving) arrivals) by_record old new
  pub end_is : end_behind p by_record ≡ Some end

-- how bytes end a receiving that have these records, and that in hand behind them
abbrev pub Stops : RecvEnd → List Arrival → Position → Standing → Standing → Type 0
Stops (BadFrame at) arrivals p old new = EndsIn (BadFrame at) arrivals p old new
Stops (Refused answer) arrivals p old new = EndsIn (Refused answer) arrivals p old new
Stops StreamLimit arrivals p old new = EndsIn StreamLimit arrivals p old new
Stops Worn arrivals p old new = BreaksOff arrivals old new × (length new.pass.seen ≡ MOST_TURNS)
Stops OutOfMemory arrivals p old new = BreaksOff arrivals old new
Stops Ended arrivals p old new = ⊥
Stops (Truncated at) arrivals p old new = ⊥
Stops LinkFault arrivals p old new = ⊥
Stops LogFault arrivals p old new = ⊥

-- how a record ends a receiving that has these records
abbrev pub StopsBy : RecvEnd → List Arrival → Standing → Standing → Type 0
StopsBy (BadFrame at) arrivals old new = Takes (taken (taken_none old.receiving) arrivals) (Some (BadFrame at)) old new
StopsBy (Refused answer) arrivals old new = Takes (taken (taken_none old.receiving) arrivals) (Some (Refused answer)) old new
StopsBy Worn arrivals old new = BreaksOff arrivals old new × (length new.pass.seen ≡ MOST_TURNS)
StopsBy OutOfMemory arrivals old new = BreaksOff arrivals old new
StopsBy StreamLimit arrivals old new = ⊥
StopsBy Ended arrivals old new = ⊥
StopsBy (Truncated at) arrivals old new = ⊥
StopsBy LinkFault arrivals old new = ⊥
StopsBy LogFault arrivals old new = ⊥

-- these records were taken, and the one behind them is too long
pub record TooLong (end : RecvEnd) (arrivals : List Arrival) (p : Position) (old new : Standing) : Type 0 where
  pub takes : TakesAll arrivals old new
  pub faulty : is_faulty p.reading ≡ true
  pub end_is : end ≡ BadFrame p.begins

abbrev pub Cuts : RecvEnd → List Arrival → Position → Standing → Standing → Type 0
Cuts end arrivals p old new = TooLong end arrivals p old new ⊎ StopsBy end arrivals old new

-- a content, if there is one, as the record that came then and begins there
abbrev pub found : ℕ → ℕ → Option (List ℕ) → List Arrival
found now at None = []
found now at (Some content) = record { now = now; at = at; content = content } ∷ []

-- what becomes of such a record
abbrev pub Finds : Option RecvEnd → ℕ → ℕ → Option (List ℕ) → Standing → Standing → Type 0
Finds None now at content old new = TakesAll (found now at content) old new
Finds (Some end) now at content old new = StopsBy end (found now at content) old new

-- the record that bytes complete first, if they complete one
abbrev pub first_of : ℕ → Position → List ℕ → List Arrival
first_of now p bytes = arrived now (given p.begins (after p.reading bytes))

-- what is in hand behind that record, or behind all of the bytes
abbrev pub behind : Position → List ℕ → Position
behind p bytes = forgets p.begins (p.came + bytes_taken p.reading bytes) (after p.reading bytes)

-- a reader goes on by so many of these bytes: up to the end of a record, or all
pub record Reads (p : Position) (bytes : List ℕ) (n : ℕ) (q : Position) : Type 0 where
  pub count : n ≡ bytes_taken p.reading bytes
  pub some : 0 < n
  pub most : n ≤ length bytes
  pub hand_is : q ≡ behind p bytes
  pub sound : is_faulty q.reading ≡ false

-- what becomes of the first record in some bytes
pub record TakesFirst (now : ℕ) (bytes : List ℕ) (n : ℕ) (p q : Position) (old new : Standing) : Type 0 where
  pub reads : Reads p bytes n q
  pub takes : TakesAll (first_of now p bytes) old new

-- how many bytes were taken, or the end that was written
abbrev pub turned : ℕ → Option RecvEnd → Result ℕ RecvEnd
turned n None = Ok n
turned n (Some end) = Err end

abbrev pub Turns : Result ℕ RecvEnd → ℕ → List ℕ → Position → Position → Standing → Standing → Type 0
Turns (Ok n) now bytes p q old new = TakesFirst now bytes n p q old new
Turns (Err end) now bytes p q old new = Cuts end (first_of now p bytes) (behind p bytes) old new

-- what becomes of all records in some bytes
pub record TakesBytes (now : ℕ) (bytes : List ℕ) (p q : Position) (old new : Standing) : Type 0 where
  pub takes : TakesAll (arrived now (records_in p bytes)) old new
  pub hand_is : q ≡ in_hand p bytes
  pub sound : is_faulty q.reading ≡ false

abbrev pub Runs : Option RecvEnd → ℕ → List ℕ → Position → Position → Standing → Standing → Type 0
Runs None now bytes p q old new = TakesBytes now bytes p q old new
Runs (Some end) now bytes p q old new = Cuts end (arrived now (records_in p bytes)) (in_hand p bytes) old new

-- what becomes of all records in a piece
pub record TakesPiece (piece : Piece) (p q : Position) (old new : Standing) : Type 0 where
  pub takes : TakesAll (arrivals p (piece ∷ [])) old new
  pub hand_is : q ≡ hand p (piece ∷ [])
  pub goes_on : end_behind q None ≡ None

abbrev pub Passes : Option RecvEnd → Piece → Position → Position → Standing → Standing → Type 0
Passes None piece p q old new = TakesPiece piece p q old new
Passes (Some end) piece p q old new = Stops end (arrivals p (piece ∷ [])) (hand p (piece ∷ [])) old new

-- how a record that begins there ends a receiving: one that is too long or for which there is no memory, a message of a feed, or the reply to a
-- request
abbrev pub end_of_fault : RpcFault → ℕ → RecvEnd
end_of_fault (rpc_fault.TooLong place) at = BadFrame at
end_of_fault rpc_fault.OutOfMemory at = OutOfMemory

abbrev pub end_of_message : Option RecvEnd → MessageEnd → ℕ → Option RecvEnd
end_of_message end message_end.Goes at = end
end_of_message end message_end.Bad at = Some (BadFrame at)
end_of_message end message_end.Worn at = Some Worn
end_of_message end message_end.OutOfMemory at = Some OutOfMemory

abbrev pub end_of_answer : AnswerEnd → ℕ → Option RecvEnd
end_of_answer answer_end.Goes at = None
end_of_answer answer_end.Bad at = Some (BadFrame at)
end_of_answer (answer_end.Declined answer) at = Some (Refused answer)
end_of_answer answer_end.OutOfMemory at = Some OutOfMemory
