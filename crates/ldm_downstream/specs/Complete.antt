-- When receiving a stream comes to its end.
use Rattle.std.specs.Prelude.{◌≡◌, ℕ, true, List, ◌++◌, Some, None}
use Rattle.ldm_outside.specs.Count.{Rose}
use Rattle.ldm_outside.specs.Session.{SessionRecord}
use Rattle.ldm_model.specs.declared.event.Entry.{Entry}
use Rattle.ldm_shared.specs.Passes.{PassView, Calls}
use Rattle.ldm_intake.specs.declared.end.RecvEnd.{RecvEnd}
use Rattle.ldm_intake.specs.declared.end.RecvEnd.TheVariants.{Ended, Truncated, BadFrame, Refused, LinkFault, LogFault, StreamLimit, Worn, OutOfMemory}
use Rattle.ldm_intake.specs.Course.{Leads}
use Rattle.ldm_intake.specs.Receiving.{Receiving}
use Rattle.ldm_intake.specs.Taken.{Taken}
use Rattle.ldm_downstream.specs.Pieces.{Piece, beginning, hand, joined}
use Rattle.ldm_downstream.specs.Received.{is_edge, received}

-- An actor's entries are with replies by which the stream is accepted. In whatever pieces it comes, and at whatever moments: where they
-- lead through it, nothing in it ends the receiving, and behind it no record is begun, no product is pending and no reply to a request
-- is owed. As many bytes as are taken of a stream end it, so it has less.
abbrev pub AcceptsBy : ℕ → List Entry → Receiving → List ℕ → Type 0
AcceptsBy actor made s stream = (pieces : List Piece) (t : Taken) → joined pieces ≡ stream → Leads actor (received s beginning pieces) made t →
    (t.end ≡ None) × (is_edge (hand beginning pieces) t.receiving ≡ true)

-- The stream is accepted, whatever the queue replies.
abbrev pub Accepts : Receiving → List ℕ → Type 0
Accepts s stream = (actor : ℕ) (made : List Entry) → AcceptsBy actor made s stream

-- The stream is accepted with what the queue replied to a pass since it was the old one.
abbrev pub AcceptsReplied : Receiving → List ℕ → (old new : PassView) → Type 0
AcceptsReplied s stream old new = (made rest : List Entry) → Calls old new (made ++ rest) → AcceptsBy old.actor made s stream

-- the stream was received to its end, or the queue can have no call more, or there is no memory
abbrev pub IsComplete : RecvEnd → Type 0
IsComplete Ended = Unit {0}
IsComplete Worn = Unit {0}
IsComplete OutOfMemory = Unit {0}
IsComplete (Truncated at) = ⊥
IsComplete (BadFrame at) = ⊥
IsComplete (Refused answer) = ⊥
IsComplete LinkFault = ⊥
IsComplete LogFault = ⊥
IsComplete StreamLimit = ⊥

-- Where the bytes that came ahead and those that the link had left are a stream that is accepted, and neither link nor log failed, a
-- receiving that ended so is complete.
abbrev pub Completes : RecvEnd → Receiving → (ahead : List ℕ) → (old new : PassView) → (before after : SessionRecord) → Type 0
Completes end s ahead old new before after =
    (rest : List ℕ) → before.link.left ≡ Some rest → AcceptsReplied s (ahead ++ rest) old new →
    ¬ Rose before.link.faults after.link.faults → ¬ Rose before.log.faults after.log.faults → IsComplete end
