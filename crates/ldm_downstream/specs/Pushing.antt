-- What pushing one piece of a stream does, and the end of the stream.
use Rattle.std.specs.Prelude.{◌≡◌, ◌⊎◌, Bool, true, false, List, [], ◌∷◌, length, Option, Some, None, if◌then◌else◌}
use Rattle.ldm_rpc.specs.Streams.{Position}
use Rattle.ldm_shared.specs.declared.steps.TheConstants.{MOST_TURNS}
use Rattle.ldm_intake.specs.declared.end.RecvEnd.{RecvEnd}
use Rattle.ldm_intake.specs.declared.end.RecvEnd.TheVariants.{Ended, Truncated, BadFrame, Refused, LinkFault, LogFault, StreamLimit, Worn, OutOfMemory}
use Rattle.ldm_downstream.specs.declared.receiver.Pushed.{Pushed}
use Rattle.ldm_downstream.specs.declared.receiver.Pushed.TheVariants as pushed
use Rattle.ldm_downstream.specs.Pieces.{Piece, arrivals, hand}
use Rattle.ldm_shared.specs.Passes.{PassView}
use Rattle.ldm_intake.specs.Receiving.{Receiving}
use Rattle.ldm_intake.specs.TakesRecord.{Standing}
use Rattle.ldm_intake.specs.Turning.{HasClosed, HasKept}
use Rattle.ldm_downstream.specs.Taking.{Takes, BreaksOff, GivesUp}
use Rattle.ldm_downstream.specs.Received.{at_stream_end, received}
use Rattle.ldm_downstream.specs.ReceiverView.{ReceiverView}

-- what a push answers by how a receiver ended, if it did
abbrev pub answer_of : Option RecvEnd → Pushed
answer_of None = pushed.On
answer_of (Some OutOfMemory) = pushed.OutOfMemory
answer_of (Some end) = pushed.Over end

-- All that the pieces ask for was asked, and that ended it: what was open is given up.
pub record EndsWhole (end : RecvEnd) (pieces : List Piece) (p : Position) (old new : Standing) : Type 0 where
  pub between : Standing
  pub takes : Takes (received old.receiving p pieces) (Some end) old between
  pub gives_up : GivesUp between new

-- It ended early: the first of the records were taken, and what was open is given up.
pub record EndsEarly (pieces : List Piece) (p : Position) (old new : Standing) : Type 0 where
  pub between : Standing
  pub breaks : BreaksOff (arrivals p pieces) old between
  pub gives_up : GivesUp between new

-- It ended early, since the queue can have no more calls: nothing is given up.
pub record EndsWorn (pieces : List Piece) (p : Position) (old new : Standing) : Type 0 where
  pub breaks : BreaksOff (arrivals p pieces) old new
  pub worn : length new.pass.seen ≡ MOST_TURNS

-- how pieces end a receiving
abbrev pub Ends : RecvEnd → List Piece → Position → Standing → Standing → Type 0
Ends (BadFrame at) pieces p old new = EndsWhole (BadFrame at) pieces p old new
Ends (Refused answer) pieces p old new = EndsWhole (Refused answer) pieces p old new
Ends StreamLimit pieces p old new = EndsWhole StreamLimit pieces p old new
Ends OutOfMemory pieces p old new = EndsEarly pieces p old new
Ends Worn pieces p old new = EndsWorn pieces p old new
Ends Ended pieces p old new = ⊥
Ends (Truncated at) pieces p old new = ⊥
Ends LinkFault pieces p old new = ⊥
Ends LogFault pieces p old new = ⊥

-- All that the pieces ask for was asked, and the receiving goes on.
pub record Continues (pieces : List Piece) (p q : Position) (old new : Standing) : Type 0 where
  pub takes : Takes (received old.receiving p pieces) None old new
  pub hand_is : q ≡ hand p pieces

-- how a receiver that is not over stands after it was pushed a piece
abbrev pub Pushes : Option RecvEnd → Piece → Position → Position → Standing → Standing → Type 0
Pushes None piece p q old new = Continues (piece ∷ []) p q old new
Pushes (Some end) piece p q old new = Ends end (piece ∷ []) p old new

-- What pushing a piece does. Nothing, once the receiver is over.
abbrev pub PushesAt : Option RecvEnd → Piece → ReceiverView → ReceiverView → Standing → Standing → Type 0
PushesAt None piece old new before after = Pushes new.end piece old.hand new.hand before after × (new.owes ≡ old.owes)
PushesAt (Some end) piece old new before after = (new ≡ old) × (after ≡ before)

abbrev pub is_worn : RecvEnd → Bool
is_worn Worn = true
is_worn Ended = false
is_worn (Truncated at) = false
is_worn (BadFrame at) = false
is_worn (Refused answer) = false
is_worn LinkFault = false
is_worn LogFault = false
is_worn StreamLimit = false
is_worn OutOfMemory = false

-- What was open is given up, and it ends so; or the queue can have no call more, and it ends by that. Where that is so already, nothing is
-- asked.
abbrev pub ClosesIf : Bool → (end result : RecvEnd) → (old new : Receiving) → (pass after : PassView) → Type 0
ClosesIf true end result old new pass after = (result ≡ end) × (new ≡ old) × (after ≡ pass)
ClosesIf false end result old new pass after = ((result ≡ end) × HasClosed old new pass after) ⊎ ((result ≡ Worn) × HasKept old new pass after)

-- a receiver is over, by that end where the queue can have a call more
pub record Finishes (end result : RecvEnd) (old new : ReceiverView) (pass after : PassView) : Type 0 where
  pub closes : ClosesIf (is_worn end) end result old.receiving new.receiving pass after
  pub over : new.end ≡ Some result
  pub hand : new.hand ≡ old.hand
  pub owes : new.owes ≡ old.owes

-- The stream of a receiver ends. One that is over answers its end again.
abbrev pub EndsAt : Option RecvEnd → RecvEnd → ReceiverView → PassView → PassView → Type 0
EndsAt (Some end) result receiver pass after = (result ≡ end) × (after ≡ pass)
EndsAt None result receiver pass after = (new : Receiving) × ClosesIf false (at_stream_end receiver.hand receiver.receiving) result receiver.receiving new pass after

-- A fault of the outside ends it, where the queue did not end it before. What was open is given up, unless it was over.
abbrev pub FailsAt : Option RecvEnd → (fault result : RecvEnd) → (old new : ReceiverView) → (pass after : PassView) → Type 0
FailsAt None fault result old new pass after = Finishes fault result old new pass after
FailsAt (Some end) fault result old new pass after = (result ≡ (if is_worn end then Worn else fault)) × (new ≡ old) × (after ≡ pass)
