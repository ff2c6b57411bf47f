-- Lemmas for callers: bytes given, taken and written one piece after another, and counts that rise.
use Rattle.std.proofs.Common.{◌≡◌, ℕ, ◌+◌, ◌<◌, ◌≤◌, ◌⊎◌, List, [], ◌++◌, take, drop, Option, Some, None, inl, inr, refl, sym, ap, ◌∙◌, append_assoc, arith}
use Rattle.std.specs.Option.{option_map}
use Rattle.std.proofs.Math.Seq.{take-add}
use Rattle.std.proofs.lemmas.Bool.{cases_lt}
use Rattle.std.proofs.lemmas.List.{take-append-drop, append-nil}
use Rattle.ldm_outside.specs.Count.{Rose}
use Rattle.ldm_outside.specs.Io.{SourceRecord, SinkRecord, Gives, Takes, WritesFront}

-- a count that rose later
pub Rose-later : (old mid new : ℕ) → old ≤ mid → Rose mid new → Rose old new
Rose-later old mid new later (inl rose) = inl (omega arith)
Rose-later old mid new later (inr still) = elim (cases_eq_or old mid later) [ inl same ↦ inr (same ∙ still.0, still.1) | inr below ↦ inl (omega (arith, still.0, still.1)) ]
  where
    cases_eq_or : (a b : ℕ) → a ≤ b → (a ≡ b) ⊎ (a < b)
    cases_eq_or a b h = elim (cases_lt a b) [ inl lt ↦ inr lt | inr ge ↦ inl (omega arith) ]

-- bytes behind others that are kept, if any are
abbrev after_piece : List ℕ → Option (List ℕ) → Option (List ℕ)
after_piece piece kept = option_map (λ before. before ++ piece) kept

-- bytes in front of others that are left, if any are told
abbrev before_rest : List ℕ → Option (List ℕ) → Option (List ℕ)
before_rest bytes left = option_map (λ rest. bytes ++ rest) left

after_piece-append : (old : Option (List ℕ)) (first second : List ℕ) → after_piece second (after_piece first old) ≡ after_piece (first ++ second) old
after_piece-append None first second = refl
after_piece-append (Some xs) first second = ap (λ (t : List ℕ). Some t) (append_assoc xs first second)

before_rest-append : (first second : List ℕ) (left : Option (List ℕ)) → before_rest first (before_rest second left) ≡ before_rest (first ++ second) left
before_rest-append first second None = refl
before_rest-append first second (Some rest) = ap (λ (t : List ℕ). Some t) (sym (append_assoc first second rest))

-- two pieces, given one after the other
pub Gives-then : (old mid new : SourceRecord) (first second : List ℕ) → Gives old first mid → Gives mid second new → Gives old (first ++ second) new
Gives-then old mid new first second one two = one ∙ ap (before_rest first) two ∙ before_rest-append first second new.left

-- nothing was given
pub Gives-nothing : (old new : SourceRecord) → new.left ≡ old.left → Gives old [] new
Gives-nothing old new same = by_left old.left ∙ ap (before_rest []) (sym same)
  where
    by_left : (left : Option (List ℕ)) → left ≡ before_rest [] left
    by_left None = refl
    by_left (Some rest) = refl

-- what was given, where no more of what is left is known
pub Gives-same : (old mid new : SourceRecord) (bytes : List ℕ) → Gives old bytes mid → new.left ≡ mid.left → Gives old bytes new
Gives-same old mid new bytes gives same = gives ∙ ap (before_rest bytes) (sym same)

-- two pieces, taken one after the other
pub Takes-then : (old mid new : SinkRecord) (first second : List ℕ) → Takes old first mid → Takes mid second new → Takes old (first ++ second) new
Takes-then old mid new first second one two = two ∙ ap (after_piece second) one ∙ after_piece-append old.written first second

-- two fronts of one piece, taken one after the other
pub Takes-more : (old mid new : SinkRecord) (piece : List ℕ) (m n : ℕ) → Takes old (take m piece) mid → Takes mid (take n (drop m piece)) new → Takes old (take (m + n) piece) new
Takes-more old mid new piece m n first second = rw (take-add m n piece) (Takes-then old mid new (take m piece) (take n (drop m piece)) first second)

-- nothing was taken
pub Takes-nothing : (old new : SinkRecord) → new.written ≡ old.written → Takes old [] new
Takes-nothing old new same = same ∙ by_written old.written
  where
    by_written : (written : Option (List ℕ)) → written ≡ after_piece [] written
    by_written None = refl
    by_written (Some xs) = ap (λ (t : List ℕ). Some t) (sym (append-nil xs))

-- what was taken, and then no more
pub Takes-same : (old mid new : SinkRecord) (bytes : List ℕ) → Takes old bytes mid → new.written ≡ mid.written → Takes old bytes new
Takes-same old mid new bytes takes same = same ∙ takes

-- the first so many bytes of a text are a front of it
pub WritesFront-take : (old new : SinkRecord) (text : List ℕ) (n : ℕ) → Takes old (take n text) new → WritesFront old text new
WritesFront-take old new text n taken = (take n text, drop n text, take-append-drop n text, taken)

-- all of a piece, and then a front of what follows
pub WritesFront-behind : (old mid new : SinkRecord) (first text behind : List ℕ) → Takes old first mid → WritesFront mid text new → WritesFront old (first ++ text ++ behind) new
WritesFront-behind old mid new first text behind one front =
    (first ++ front.0, front.1 ++ behind, sym (append_assoc (first ++ front.0) front.1 behind) ∙ ap (λ (t : List ℕ). t ++ behind) (append_assoc first front.0 front.1 ∙ ap (λ (t : List ℕ). first ++ t) front.2), Takes-then old mid new first front.0 one front.3)
