-- The least empty place is the least that has no mark.
use Rattle.std.proofs.Common.{◌≡◌, ℕ, ◌<◌, true, false, length, Option, Some, None, is_none, refl, sym, ◌∙◌, arith}
use Rattle.std.specs.Int.{bit_at}
use Rattle.std.specs.List.{position_or_len}
use Rattle.std.proofs.lemmas.Grind.{common_steps}
use Rattle.std.proofs.lemmas.List.Sums.{position_or_len_is}
use Rattle.ldm_cursor.specs.Kept.{AreMarked, mark_of}
use Rattle.ldm_cursor.specs.Marks.{IsFirstUnmarked}
use Rattle.ldm_types.specs.Cursors.{KeptCursor, Places}
use Rattle.ldm_cursor.specs.Places.{cursor_at, least_empty}

is_none-marked : (place : Option KeptCursor) → mark_of place ≡ 1 → is_none place ≡ false
is_none-marked None mark = absurd (omega (arith, mark))
is_none-marked (Some cursor) mark = refl

is_none-unmarked : (place : Option KeptCursor) → mark_of place ≡ 0 → is_none place ≡ true
is_none-unmarked None mark = refl
is_none-unmarked (Some cursor) mark = absurd (omega (arith, mark))

pub least_empty-unmarked : (places : Places) (marks k : ℕ) → length places ≡ 64 → AreMarked mark_of places marks
    → k < 64 → IsFirstUnmarked marks k → Some k ≡ least_empty places
least_empty-unmarked places marks k many marked bound first =
    let at : position_or_len is_none places ≡ k =
    position_or_len_is is_none places k None (omega arith)
    (λ i before. is_none-marked (cursor_at places i) (sym (marked i (omega arith)) ∙ first.before i before))
    (λ inside. is_none-unmarked (cursor_at places k) (sym (marked k bound) ∙ first.unmarked)) in
    grind (arith, common_steps)

pub least_empty-none : (places : Places) (marks : ℕ) → length places ≡ 64 → AreMarked mark_of places marks
    → ((i : ℕ) → i < 64 → bit_at marks i ≡ 1) → None ≡ least_empty places
least_empty-none places marks many marked all =
    let at : position_or_len is_none places ≡ length places =
    position_or_len_is is_none places (length places) None (omega arith)
    (λ i before. is_none-marked (cursor_at places i) (sym (marked i (omega arith)) ∙ all i (omega arith)))
    (λ inside. absurd (omega arith)) in
    grind (arith, common_steps)
