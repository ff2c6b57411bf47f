-- Where the first mark stands.
use Rattle.std.proofs.Common.{◌≡◌, ◌≢◌, ℕ, zero, suc, ◌+◌, ◌-◌, ◌<◌, ◌≤◌, ◌==◌, ◌||◌, min, Bool, true, false, not, List, [], ◌∷◌, length, take, get_or, Option, Some, None, refl, sym, ap, ◌∙◌, arith}
use Rattle.std.proofs.lemmas.List.{get_or-take, length-take-le, take-take, take_all}
use Rattle.std.proofs.lemmas.Bool.{eq-eqb, ne_eqb}
use Rattle.std.proofs.lemmas.List.Folds.{list_all_at}
use Rattle.std.specs.List.{list_all}
use Rattle.std.specs.Option.{is_some}
use Rattle.memchr.specs.Find.{IsFirstByte, is_byte2}
use Rattle.ldm_wmo.specs.Bulletins.{has_no_mark, is_mark}
use Rattle.ldm_wmo.specs.Courses.{GoesTo}

or_true : (b : Bool) → (b || true) ≡ true
or_true true = refl
or_true false = refl

not_true : (b : Bool) → (b ≡ true → ⊥) → not b ≡ true
not_true true h = absurd (h refl)
not_true false h = refl

-- no byte before that place passes
pub none_before : (p : ℕ → Bool) (hay : List ℕ) (n : ℕ) → ((k : ℕ) → k < n → k < length hay → p (get_or hay k 0) ≡ true → ⊥)
    → list_all (λ b. not (p b)) (take n hay) ≡ true
none_before p hay zero none = refl
none_before p [] (suc n) none = refl
none_before p (x ∷ xs) (suc n) none =
    let here : not (p x) ≡ true = not_true (p x) (none 0 (omega arith) (omega arith)) in
    rw here (none_before p xs n (λ k below within. none (suc k) (omega arith) (omega arith)))

pub none_at_all : (p : ℕ → Bool) (hay : List ℕ) → IsFirstByte p hay None → list_all (λ b. not (p b)) hay ≡ true
none_at_all p hay none =
    ap (list_all (λ b. not (p b))) (sym (take_all (length hay) hay (omega arith)))
    ∙ none_before p hay (length hay) (λ k below within. none k (omega arith) within)

pub text_is : (text : List ℕ) (r : Option ℕ) (none : Bool) → IsFirstByte (is_byte2 1 3) text r → is_some r ≡ not none → none ≡ has_no_mark text
text_is text None true none is = sym (none_at_all is_mark text none)
text_is text None false none is = absurd cc
text_is text (Some at) true found is = absurd cc
text_is text (Some at) false found is = sym (list_all_at (λ b. not (is_mark b)) text at 0 found.0.high (ap not found.1))

-- ---- a candidate that has room for so many more bytes, of which there are n in the piece

abbrev pub Finds : List ℕ → ℕ → Option ℕ → Type 0
Finds piece n r = IsFirstByte (is_byte2 1 3) (take n piece) r

pub goes_to : (piece : List ℕ) (most n at : ℕ) → n ≡ min (length piece) most → Finds piece n (Some at) → GoesTo piece most at
goes_to piece most n at n_is found =
    let len : length (take n piece) ≡ n = length-take-le n piece (omega arith) in
    let below : at < length (take n piece) = found.0.high in
    let none = none_before is_mark (take n piece) at (λ k lt inside. found.0.before k (omega arith) lt) in
    record {
      within = omega arith;
      room = omega arith;
      no_mark = ap has_no_mark (sym (take-take at n piece (omega arith))) ∙ none;
    }

pub byte_there : (piece : List ℕ) (most n at : ℕ) → n ≡ min (length piece) most → Finds piece n (Some at) → get_or (take n piece) at 0 ≡ get_or piece at 0
byte_there piece most n at n_is found =
    let len : length (take n piece) ≡ n = length-take-le n piece (omega arith) in
    let below : at < length (take n piece) = found.0.high in
    get_or-take n piece at 0 (omega arith)

-- a mark that is no 1 is a 3
pub is_3 : (byte : ℕ) (last : Bool) → is_mark byte ≡ true → byte ≢ 1 → (byte == 3 || last) ≡ true
is_3 byte last mark other =
    let isnt : (byte == 1) ≡ false = ne_eqb byte 1 other in
    let is : (byte == 3) ≡ true = rw isnt at mark in
    rw is refl

-- the room is full
pub fills : (piece : List ℕ) (most n : ℕ) → 0 < most → n ≡ min (length piece) most → n ≡ most → Finds piece n None
    → GoesTo piece most (most - 1) × (get_or piece (most - 1) 0 ≢ 1) × ((get_or piece (most - 1) 0 == 3 || most - 1 + 1 == most) ≡ true)
fills piece most n some n_is full none =
    let len : length (take n piece) ≡ n = length-take-le n piece (omega arith) in
    let before = none_before is_mark (take n piece) (most - 1) (λ k lt inside. none k (omega arith) inside) in
    let there : get_or (take n piece) (most - 1) 0 ≡ get_or piece (most - 1) 0 = get_or-take n piece (most - 1) 0 (omega arith) in
    let last : (most - 1 + 1 == most) ≡ true = eq-eqb (most - 1 + 1) most (omega arith) in (
      record { within = omega arith; room = omega arith; no_mark = ap has_no_mark (sym (take-take (most - 1) n piece (omega arith))) ∙ before },
      λ is. none (most - 1) (omega arith) (omega arith) (rw (there ∙ is) refl),
      rw last (or_true (get_or piece (most - 1) 0 == 3)),
    )

-- the piece ends before the room is full
pub stays_open : (piece : List ℕ) (most n : ℕ) → n ≡ min (length piece) most → n ≢ most → Finds piece n None → (length piece < most) × (has_no_mark piece ≡ true)
stays_open piece most n n_is other none =
    let whole : take n piece ≡ piece = take_all n piece (omega arith) in (
      omega arith,
      ap has_no_mark (sym whole) ∙ none_at_all is_mark (take n piece) none,
    )
