-- A loss, counted at one open place after another.
use Rattle.std.proofs.Common.{◌≡◌, ℕ, ◌<◌, List, length, get_or, set, map, Option, Some, None, ⊎_elim, refl, sym, ap, ◌∙◌, subst, get_or-set_same, get_or-set_other, arith}
use Rattle.std.specs.Int.{bit_at}
use Rattle.std.specs.Option.{IfSome}
use Rattle.std.proofs.lemmas.Bool.{cases_eq}
use Rattle.std.proofs.lemmas.List.{ext_get_or, get_or_default, get_or-map, length-map, length-set}
use Rattle.std.proofs.lemmas.Nat.Bits.{bit_at-zero}
use Rattle.ldm_cursor.specs.declared.cursor.Cursor.{Cursor}
use Rattle.ldm_cursor.specs.Kept.{AreMarked, kept_of, mark_of, place_of, places_of}
use Rattle.ldm_cursor.specs.Marks.{LosesMark}
use Rattle.ldm_types.specs.Cursors.{KeptCursor}
use Rattle.ldm_cursor.specs.Places.{CountsBelow, HasCountsBelow, with_loss}

-- the places that are still marked are as they were, and the others have the loss
pub record LostElsewhere (n feed marks : ℕ) (items initial : List (Option Cursor)) : Type 0 where
  pub many : length items ≡ 64
  pub before : length initial ≡ 64
  pub rest : (k : ℕ) → k < 64 → bit_at marks k ≡ 1 → get_or items k None ≡ get_or initial k None
  pub done : (k : ℕ) → k < 64 → bit_at marks k ≡ 0 → place_of (get_or items k None) ≡ with_loss n feed (place_of (get_or initial k None))

no_loss : (n feed : ℕ) (place : Option KeptCursor) → mark_of place ≡ 0 → place ≡ with_loss n feed place
no_loss n feed None mark = refl
no_loss n feed (Some cursor) mark = absurd (omega (arith, mark))

-- at first every open place is marked
pub LostElsewhere-none : (n feed marks : ℕ) (items : List (Option Cursor)) → length items ≡ 64
    → AreMarked mark_of (places_of items) marks → LostElsewhere n feed marks items items
LostElsewhere-none n feed marks items many marked =
    record {
      many = many;
      before = many;
      rest = λ k bound marked. refl;
      done = λ k bound unmarked.
          let here : get_or (places_of items) k None ≡ place_of (get_or items k None) = get_or-map place_of items k None None (omega arith) in
          no_loss n feed (place_of (get_or items k None)) (ap mark_of (sym here) ∙ sym (marked k bound) ∙ unmarked);
    }

-- what stands at a place
found_at : (items : List (Option Cursor)) (at k : ℕ) (read found : Option Cursor) → at ≡ k → at < length items → get_or items at read ≡ found → get_or items k None ≡ found
found_at items at k read found same inside is =
    ap (λ j. get_or items j None) (sym same) ∙ get_or_default items at None read inside ∙ is

-- one place more
pub LostElsewhere-more : (n feed marks left at k : ℕ) (items initial : List (Option Cursor)) (read found after : Option Cursor) → LostElsewhere n feed marks items initial → at ≡ k → k < 64 → bit_at marks k ≡ 1 → LosesMark marks left k → get_or items at read ≡ found → place_of after ≡ with_loss n feed (place_of found) → LostElsewhere n feed left (set items at after) initial
LostElsewhere-more n feed marks left at k items initial read found after lost here inside marked loses stands is =
    let many : length items ≡ 64 = lost.many in
    let was : get_or initial k None ≡ found = sym (lost.rest k inside marked) ∙ found_at items at k read found here (omega arith) stands in
    subst (λ j. LostElsewhere n feed left (set items j after) initial) (sym here)
    record {
      many = length-set items k after ∙ lost.many;
      before = lost.before;
      rest = λ i bound still.
          ⊎_elim
          (λ same. let none : bit_at left i ≡ 0 = ap (bit_at left) same ∙ loses.unmarked in absurd (omega arith))
          (λ other. get_or-set_other items k i after None other ∙ lost.rest i bound (sym (loses.others i bound other) ∙ still))
          (cases_eq i k);
      done = λ i bound unmarked.
          ⊎_elim
          (λ same.
          ap (λ j. place_of (get_or (set items k after) j None)) same
          ∙ ap place_of (get_or-set_same items k after None (omega arith))
          ∙ is
          ∙ ap (λ (old : Option Cursor). with_loss n feed (place_of old)) (sym was)
          ∙ ap (λ j. with_loss n feed (place_of (get_or initial j None))) (sym same))
          (λ other. ap place_of (get_or-set_other items k i after None other) ∙ lost.done i bound (sym (loses.others i bound other) ∙ unmarked))
          (cases_eq i k);
    }

-- no place is marked any more
pub with_loss-all : (n feed marks : ℕ) (items initial : List (Option Cursor)) → LostElsewhere n feed marks items initial → marks ≡ 0 → places_of items ≡ map (with_loss n feed) (places_of initial)
with_loss-all n feed marks items initial lost none =
    let many : length items ≡ 64 = lost.many in
    let before : length initial ≡ 64 = lost.before in
    let seen = length-map items place_of in
    let was = length-map initial place_of in
    ext_get_or None (places_of items) (map (with_loss n feed) (places_of initial)) (omega (arith, length-map (places_of initial) (with_loss n feed)))
    (λ k inside.
    get_or-map place_of items k None None (omega arith)
    ∙ lost.done k (omega arith) (ap (λ m. bit_at m k) none ∙ bit_at-zero k)
    ∙ ap (with_loss n feed) (sym (get_or-map place_of initial k None None (omega arith)))
    ∙ sym (get_or-map (with_loss n feed) (places_of initial) k None None (omega arith)))

-- the counts of a cursor that is still marked are those that it had
pub HasCountsBelow-marked : (n feed marks at k limit : ℕ) (items initial : List (Option Cursor)) (read : Option Cursor) (cursor : Cursor) → LostElsewhere n feed marks items initial → CountsBelow limit (places_of initial) → at ≡ k → k < 64 → bit_at marks k ≡ 1 → get_or items at read ≡ Some cursor → HasCountsBelow limit (kept_of cursor)
HasCountsBelow-marked n feed marks at k limit items initial read cursor lost counts here inside marked stands =
    let many : length items ≡ 64 = lost.many in
    let before : length initial ≡ 64 = lost.before in
    let was : get_or (places_of initial) k None ≡ Some (kept_of cursor) =
    get_or-map place_of initial k None None (omega arith)
    ∙ ap place_of (sym (lost.rest k inside marked) ∙ found_at items at k read (Some cursor) here (omega arith) stands) in
    subst (λ (seen : Option KeptCursor). IfSome seen (HasCountsBelow limit)) was (counts k None (omega (arith, length-map initial place_of)))
