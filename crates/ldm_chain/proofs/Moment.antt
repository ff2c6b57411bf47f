-- Pieces that all come at one moment: only the bytes make a difference.
use Rattle.std.proofs.Common.{◌≡◌, ℕ, ◌+◌, ◌-◌, ◌<◌, ◌≤◌, Bool, true, false, leb, min, List, [], ◌∷◌, ◌++◌, length, Some, None, inl, inr, refl, ap, sym, subst, ◌∙◌, arith}
use Rattle.std.specs.Prelude.{All, if◌then◌else◌}
use Rattle.std.proofs.lemmas.Bool.{cases_lt, le-leb}
use Rattle.std.proofs.lemmas.List.{length-append, length-take}
use Rattle.std.proofs.lemmas.List.Elements.{All-nil, All-cons}
use Rattle.ldm_rpc.specs.Reading.{after_byte, is_faulty}
use Rattle.ldm_rpc.specs.Streams.{Position, Placed, forgets, in_hand, records_in}
use Rattle.ldm_intake.specs.declared.end.RecvEnd.TheVariants.{BadFrame, StreamLimit}
use Rattle.ldm_intake.specs.Course.{Comes, then}
use Rattle.ldm_intake.specs.Receiving.{Receiving}
use Rattle.ldm_intake.specs.Taken.{Arrival, Taken, taken, taken_none}
use Rattle.ldm_session.specs.declared.limits.TheConstants.{LONGEST_STREAM}
use Rattle.ldm_downstream.specs.Pieces.{Piece, arrivals, arrived, hand, joined, within}
use Rattle.ldm_downstream.specs.Received.{end_by_bytes, received, with_hand}
use Rattle.ldm_downstream.specs.Untimed.{untimed}
use Rattle.ldm_downstream.proofs.Cut.{cut-hand, cut-records}
use Rattle.ldm_chain.specs.Reflecting.{pieces_at}

-- ---- the limit of a stream

came-behind : (p : Position) (bytes : List ℕ) → (in_hand p bytes).came ≡ p.came + length bytes
unfolding in_hand
came-behind p [] = omega arith
came-behind p (byte ∷ bytes) =
    let rest = came-behind (forgets p.begins (p.came + 1) (after_byte p.reading byte)) bytes in
    omega (arith, rest)

hand-came : (p : Position) (pieces : List Piece) → p.came ≤ LONGEST_STREAM → (hand p pieces).came ≡ min (p.came + length (joined pieces)) LONGEST_STREAM
unfolding hand
hand-came p [] within_ = omega (arith, within_)
hand-came p (piece ∷ pieces) within_ =
    let part = within p piece.bytes in
    let q = in_hand p part in
    let len : length part ≡ min (LONGEST_STREAM - p.came) (length piece.bytes) = length-take (LONGEST_STREAM - p.came) piece.bytes in
    let there = came-behind p part in
    let both = length-append piece.bytes (joined pieces) in
    let rest = hand-came q pieces (omega (arith, within_, len, there)) in
    rest ∙ omega (arith, within_, len, there, both)

-- a stream that goes on is below its limit
below-limit : (q : Position) → end_by_bytes q ≡ None → q.came < LONGEST_STREAM
below-limit q none = elim (cases_lt q.came LONGEST_STREAM) [
  | inl less ↦ less
  | inr most ↦ absurd (at-limit (is_faulty q.reading) (leb LONGEST_STREAM q.came) (le-leb LONGEST_STREAM q.came most) none)
]
  where
    at-limit : (faulty full : Bool) → full ≡ true → (if faulty then Some (BadFrame q.begins) else (if full then Some StreamLimit else None)) ≡ None → ⊥
    at-limit true full is none = cc none
    at-limit false true is none = cc none
    at-limit false false is none = cc is

pub few-came : (p : Position) (pieces : List Piece) → p.came ≤ LONGEST_STREAM → end_by_bytes (hand p pieces) ≡ None → p.came + length (joined pieces) < LONGEST_STREAM
few-came p pieces within_ none =
    let came = hand-came p pieces within_ in
    let below = below-limit (hand p pieces) none in
    omega (arith, came, below)

-- ---- moments

pub all-at : (now : ℕ) (parts : List (List ℕ)) → All (λ (piece : Piece). piece.now ≡ now) (pieces_at now parts)
all-at now [] = All-nil (λ (piece : Piece). piece.now ≡ now)
all-at now (part ∷ parts) = All-cons (λ (piece : Piece). piece.now ≡ now) (record { now = now; bytes = part }) (pieces_at now parts) refl (all-at now parts)

timed-more : (now : ℕ) (records : List Placed) (others : List Arrival) → others ≡ arrived now (untimed others) → arrived now records ++ others ≡ arrived now (untimed (arrived now records ++ others))
timed-more now [] others is = is
timed-more now (r ∷ records) others is = ap (λ (xs : List Arrival). record { now = now; at = r.at; content = r.content } ∷ xs) (timed-more now records others is)

timed : (now : ℕ) (p : Position) (parts : List (List ℕ)) → arrivals p (pieces_at now parts) ≡ arrived now (untimed (arrivals p (pieces_at now parts)))
unfolding arrivals
timed now p [] = refl
timed now p (part ∷ parts) =
    timed-more now (records_in p (within p part)) (arrivals (in_hand p (within p part)) (pieces_at now parts)) (timed now (in_hand p (within p part)) parts)

module _ (now : ℕ) (p : Position) (first second : List (List ℕ)) (same : joined (pieces_at now first) ≡ joined (pieces_at now second))
    (few : p.came + length (joined (pieces_at now first)) ≤ LONGEST_STREAM) where
  also-few : p.came + length (joined (pieces_at now second)) ≤ LONGEST_STREAM
  also-few = subst (λ (bytes : List ℕ). p.came + length bytes ≤ LONGEST_STREAM) same few

  arrivals-same : arrivals p (pieces_at now first) ≡ arrivals p (pieces_at now second)
  arrivals-same =
      timed now p first
      ∙ ap (arrived now) (cut-records p (pieces_at now first) few ∙ ap (records_in p) same ∙ sym (cut-records p (pieces_at now second) also-few))
      ∙ sym (timed now p second)

  hand-same : hand p (pieces_at now first) ≡ hand p (pieces_at now second)
  hand-same = cut-hand p (pieces_at now first) few ∙ ap (in_hand p) same ∙ sym (cut-hand p (pieces_at now second) also-few)

  -- however the bytes are cut
  pub received-same : (s : Receiving) → received s p (pieces_at now first) ≡ received s p (pieces_at now second)
  received-same s = λ i. (then) (taken (taken_none s) (arrivals-same i)) (λ (t : Taken). Comes (with_hand (hand-same i) t))
