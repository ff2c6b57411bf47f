use Rattle.std.proofs.Common.{◌≤◌, ◌+◌, Bool, true, false, cond, [], ◌∷◌, length, arith}
use Rattle.ldm_types.specs.Cursors.{Places}
use Rattle.ldm_cursor.specs.Places.{count_held, held_of, is_last_hold}
use Rattle.ldm_book.proofs.book.Book.count_held.Goals as goal

-- no more are held than there are cursor places
few_held : (cs : Places) → count_held cs ≤ length cs
few_held [] = omega arith
few_held (place ∷ behind) = by_test (is_last_hold (held_of place) behind) (few_held behind)
  where
    by_test : (b : Bool) → count_held behind ≤ length behind → cond b 1 0 + count_held behind ≤ length (place ∷ behind)
    by_test true rest = omega arith
    by_test false rest = omega arith

pub overflow_add-result : goal.overflow_add-result
overflow_add-result c = omega (arith, c.count_held.ensures.count, c.count_held.ensures.many, few_held c.self.inside.cursors, c.count_reserved.ensures.few)
