-- A receiver that went over some pieces is pushed one more.
use Rattle.std.proofs.Common.{◌≡◌, List, [], ◌∷◌, ℕ, ◌++◌, Option, Some, None, refl}
use Rattle.ldm_intake.specs.declared.end.RecvEnd.{RecvEnd}
use Rattle.ldm_intake.specs.declared.end.RecvEnd.TheVariants.{Ended, Truncated, BadFrame, Refused, LinkFault, LogFault, StreamLimit, Worn, OutOfMemory}
use Rattle.ldm_intake.specs.TakesRecord.{Standing}
use Rattle.ldm_rpc.specs.Streams.{Position}
use Rattle.ldm_downstream.specs.Pieces.{Piece, beginning}
use Rattle.ldm_downstream.specs.Pushing.{Continues, Pushes, answer_of}
use Rattle.ldm_downstream.proofs.PieceEnds.{continues-then, whole-then, early-then, worn-then}
use Rattle.ldm_chain.specs.Reflecting.{Went}
use Rattle.ldm_chain.specs.Ending.{end_pushed}
use Rattle.ldm_chain.proofs.Reframing.{Moves, continues-moves, whole-moves, early-moves, worn-moves}

module _ (out notes : List ℕ) where
  pub pushes-moves : (end : Option RecvEnd) (piece : Piece) (p q : Position) (x c : Standing) → Pushes end piece p q x c → Moves out notes (Pushes end piece p q) x c
  pushes-moves None piece p q x c pushes = continues-moves out notes (piece ∷ []) p q x c pushes
  pushes-moves (Some (BadFrame at)) piece p q x c pushes = whole-moves out notes (BadFrame at) (piece ∷ []) p x c pushes
  pushes-moves (Some (Refused answer)) piece p q x c pushes = whole-moves out notes (Refused answer) (piece ∷ []) p x c pushes
  pushes-moves (Some StreamLimit) piece p q x c pushes = whole-moves out notes StreamLimit (piece ∷ []) p x c pushes
  pushes-moves (Some OutOfMemory) piece p q x c pushes = early-moves out notes (piece ∷ []) p x c pushes
  pushes-moves (Some Worn) piece p q x c pushes = worn-moves out notes (piece ∷ []) p x c pushes
  pushes-moves (Some Ended) piece p q x c pushes = absurd pushes
  pushes-moves (Some (Truncated at)) piece p q x c pushes = absurd pushes
  pushes-moves (Some LinkFault) piece p q x c pushes = absurd pushes
  pushes-moves (Some LogFault) piece p q x c pushes = absurd pushes

-- the pieces, and then this one
pub went-then : (end : Option RecvEnd) (pieces : List Piece) (piece : Piece) (p q : Position) (a b c : Standing) → Continues pieces beginning p a b → Pushes end piece p q b c
    → Went end (pieces ++ piece ∷ []) q a c
went-then None pieces piece p q a b c went pushes = continues-then beginning p pieces (piece ∷ []) a b went q c pushes
went-then (Some (BadFrame at)) pieces piece p q a b c went pushes = whole-then beginning p pieces (piece ∷ []) a b went (BadFrame at) c pushes
went-then (Some (Refused answer)) pieces piece p q a b c went pushes = whole-then beginning p pieces (piece ∷ []) a b went (Refused answer) c pushes
went-then (Some StreamLimit) pieces piece p q a b c went pushes = whole-then beginning p pieces (piece ∷ []) a b went StreamLimit c pushes
went-then (Some OutOfMemory) pieces piece p q a b c went pushes = early-then beginning p pieces (piece ∷ []) a b went c pushes
went-then (Some Worn) pieces piece p q a b c went pushes = worn-then beginning p pieces (piece ∷ []) a b went c pushes
went-then (Some Ended) pieces piece p q a b c went pushes = absurd pushes
went-then (Some (Truncated at)) pieces piece p q a b c went pushes = absurd pushes
went-then (Some LinkFault) pieces piece p q a b c went pushes = absurd pushes
went-then (Some LogFault) pieces piece p q a b c went pushes = absurd pushes

-- what a push answers says how it ended
pub end_pushed-answer : (end : Option RecvEnd) → end_pushed (answer_of end) ≡ end
end_pushed-answer None = refl
end_pushed-answer (Some OutOfMemory) = refl
end_pushed-answer (Some Ended) = refl
end_pushed-answer (Some (Truncated at)) = refl
end_pushed-answer (Some (BadFrame at)) = refl
end_pushed-answer (Some (Refused answer)) = refl
end_pushed-answer (Some LinkFault) = refl
end_pushed-answer (Some LogFault) = refl
end_pushed-answer (Some StreamLimit) = refl
end_pushed-answer (Some Worn) = refl
