-- Pieces that come behind others: the records that they complete, and what is in hand.
use Rattle.std.proofs.Common.{◌≡◌, ℕ, List, [], ◌∷◌, ◌++◌, refl, ap, sym, ◌∙◌, append_assoc}
use Rattle.std.proofs.lemmas.List.{append-nil}
use Rattle.ldm_rpc.specs.Streams.{Position, Placed, records_in, in_hand}
use Rattle.ldm_intake.specs.Taken.{Arrival}
use Rattle.ldm_downstream.specs.Pieces.{Piece, within, arrived, arrivals, hand}

pub arrived-append : (now : ℕ) (first second : List Placed) → arrived now (first ++ second) ≡ arrived now first ++ arrived now second
arrived-append now [] second = refl
arrived-append now (placed ∷ first) second =
    ap (λ (others : List Arrival). record { now = now; at = placed.at; content = placed.content } ∷ others) (arrived-append now first second)

pub arrivals-append : (p : Position) (first second : List Piece) → arrivals p (first ++ second) ≡ arrivals p first ++ arrivals (hand p first) second
unfolding arrivals hand
arrivals-append p [] second = refl
arrivals-append p (piece ∷ first) second =
    let here = arrived piece.now (records_in p (within p piece.bytes)) in
    ap (λ (others : List Arrival). here ++ others) (arrivals-append (in_hand p (within p piece.bytes)) first second)
    ∙ sym (append_assoc here (arrivals (in_hand p (within p piece.bytes)) first) (arrivals (hand (in_hand p (within p piece.bytes)) first) second))

pub hand-append : (p : Position) (first second : List Piece) → hand p (first ++ second) ≡ hand (hand p first) second
unfolding hand
hand-append p [] second = refl
hand-append p (piece ∷ first) second = hand-append (in_hand p (within p piece.bytes)) first second

-- one piece
pub arrivals-one : (p : Position) (piece : Piece) → arrivals p (piece ∷ []) ≡ arrived piece.now (records_in p (within p piece.bytes))
unfolding arrivals
arrivals-one p piece = append-nil (arrived piece.now (records_in p (within p piece.bytes)))

pub hand-one : (p : Position) (piece : Piece) → hand p (piece ∷ []) ≡ in_hand p (within p piece.bytes)
unfolding hand
hand-one p piece = refl

-- no piece
pub arrivals-none : (p : Position) → arrivals p [] ≡ []
unfolding arrivals
arrivals-none p = refl

pub hand-none : (p : Position) → hand p [] ≡ p
unfolding hand
hand-none p = refl
