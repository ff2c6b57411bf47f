use Rattle.std.proofs.Common.{◌≡◌, ℕ, Option, Some, None, sym, rules}
use Rattle.ldm_cursor.specs.Places.{least_empty}
use Rattle.ldm_cursor.proofs.IsKept.{kept-view}
use Rattle.ldm_cursor.proofs.LeastEmpty.{least_empty-none, least_empty-unmarked}
use Rattle.ldm_cursor.proofs.cursors.Cursors.is_full.Goals as goal

some_none : (k : ℕ) (o : Option ℕ) → Some k ≡ o → o ≡ None → ⊥
some_none k o is none = cc

pub returns-in-Some : goal.returns-in-Some
returns-in-Some c =
    let kept = kept-view c.self.view_is c.self.invariant in
    let least = least_empty-unmarked c.args.self.now c.self.inside.taken.bits c.in-Some.field-0 kept.many kept.opened c.in-Some.ensures.bound c.in-Some.ensures.first in
    record { full = (λ no. absurd cc, λ none. absurd (some_none c.in-Some.field-0 (least_empty c.args.self.now) least none)) }

pub returns-in-None : goal.returns-in-None
returns-in-None c =
    let kept = kept-view c.self.view_is c.self.invariant in
    let none = least_empty-none c.args.self.now c.self.inside.taken.bits kept.many kept.opened c.in-None.ensures.first in
    record { full = (λ yes. sym none, search rules) }
