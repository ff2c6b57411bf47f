-- A stream that is cut into pieces, and the same stream whole.
use Rattle.std.proofs.Common.{◌≡◌, ℕ, ◌+◌, ◌-◌, ◌≤◌, List, [], ◌∷◌, ◌++◌, length, refl, ap, sym, ◌∙◌, arith}
use Rattle.std.proofs.lemmas.List.{length-append, take_all}
use Rattle.ldm_rpc.specs.Reading.{after_byte}
use Rattle.ldm_rpc.specs.Streams.{Position, Placed, forgets, records_in, in_hand}
use Rattle.ldm_rpc.proofs.Joined.{records-append, in_hand-append}
use Rattle.ldm_intake.specs.Taken.{Arrival}
use Rattle.ldm_session.specs.declared.limits.TheConstants.{LONGEST_STREAM}
use Rattle.ldm_downstream.specs.Pieces.{Piece, joined, within, arrived, arrivals, hand}
use Rattle.ldm_downstream.specs.Untimed.{untimed}

pub came-behind : (p : Position) (bytes : List ℕ) → (in_hand p bytes).came ≡ p.came + length bytes
unfolding in_hand
came-behind p [] = omega arith
came-behind p (byte ∷ bytes) =
    let rest = came-behind (forgets p.begins (p.came + 1) (after_byte p.reading byte)) bytes in
    omega (arith, rest)

untimed-append : (first second : List Arrival) → untimed (first ++ second) ≡ untimed first ++ untimed second
untimed-append [] second = refl
untimed-append (arrival ∷ first) second =
    ap (λ (others : List Placed). record { at = arrival.at; content = arrival.content } ∷ others) (untimed-append first second)

untimed-arrived : (now : ℕ) (records : List Placed) → untimed (arrived now records) ≡ records
untimed-arrived now [] = refl
untimed-arrived now (placed ∷ records) = ap (λ (others : List Placed). placed ∷ others) (untimed-arrived now records)

-- bytes that are within the limit
pub all-within : (p : Position) (bytes : List ℕ) → p.came + length bytes ≤ LONGEST_STREAM → within p bytes ≡ bytes
all-within p bytes few = take_all (LONGEST_STREAM - p.came) bytes (omega (arith, few))

-- What is left of a stream is within the limit.
module _ (p : Position) (bytes rest : List ℕ) (few : p.came + length (bytes ++ rest) ≤ LONGEST_STREAM) where
  both : length (bytes ++ rest) ≡ length bytes + length rest
  both = length-append bytes rest

  front-within : within p bytes ≡ bytes
  front-within = all-within p bytes (omega (arith, both))

  few-behind : (in_hand p bytes).came + length rest ≤ LONGEST_STREAM
  few-behind = omega (arith, both, came-behind p bytes)

pub cut-records : (p : Position) (pieces : List Piece) → p.came + length (joined pieces) ≤ LONGEST_STREAM → untimed (arrivals p pieces) ≡ records_in p (joined pieces)
unfolding arrivals records_in
cut-records p [] few = refl
cut-records p (piece ∷ pieces) few =
    let b = piece.bytes in
    let q = in_hand p b in
    ap (λ (bytes : List ℕ). untimed (arrived piece.now (records_in p bytes) ++ arrivals (in_hand p bytes) pieces)) (front-within p b (joined pieces) few)
    ∙ untimed-append (arrived piece.now (records_in p b)) (arrivals q pieces)
    ∙ ap (λ (xs : List Placed). xs ++ untimed (arrivals q pieces)) (untimed-arrived piece.now (records_in p b))
    ∙ ap (λ (xs : List Placed). records_in p b ++ xs) (cut-records q pieces (few-behind p b (joined pieces) few))
    ∙ sym (records-append p b (joined pieces))

pub cut-hand : (p : Position) (pieces : List Piece) → p.came + length (joined pieces) ≤ LONGEST_STREAM → hand p pieces ≡ in_hand p (joined pieces)
unfolding hand in_hand
cut-hand p [] few = refl
cut-hand p (piece ∷ pieces) few =
    let b = piece.bytes in
    let q = in_hand p b in
    ap (λ (bytes : List ℕ). hand (in_hand p bytes) pieces) (front-within p b (joined pieces) few)
    ∙ cut-hand q pieces (few-behind p b (joined pieces) few)
    ∙ sym (in_hand-append p b (joined pieces))
