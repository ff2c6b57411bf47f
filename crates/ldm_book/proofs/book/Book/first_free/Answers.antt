use Rattle.std.proofs.Common.{◌≡◌, ◌∙◌, ◌+◌, ◌<◌, ℕ, false, true, Some, sym, ap, subst, arith}
use Rattle.ldm_cursor.specs.Places.{is_held}
use Rattle.ldm_book.specs.View.{BookView, Kept}
use Rattle.ldm_book.specs.Products.{LieApart, at_number, occupied_in}
use Rattle.ldm_book.specs.Readers.{AreAhead, first_of, occupied, unheld_numbers}
use Rattle.ldm_book.proofs.FreeLemmas.{number_found, no_number, first_found, ahead_found, ahead_more, none_found}
use Rattle.ldm_book.proofs.IsTimedLemmas.{timed_below}
use Rattle.ldm_book.proofs.MeetingLemmas.{at_least, found_all}
use Rattle.ldm_book.proofs.book.Book.first_free.Goals as goal

pub returns-then-not-holds-clause-first : goal.returns-then-not-holds-clause-first
returns-then-not-holds-clause-first c =
    let free : c.holds.result ≡ false = c.if-not-holds.true in
    let found = number_found _ c.in-Some.n c.in-Some.ensures.first in
    let held = ap (λ (n : ℕ). is_held n c.self.inside.cursors) found.2 ∙ sym c.holds.ensures ∙ free in
    let ahead = subst (λ (b : BookView). AreAhead c.loop-n.at b.cursors b.rows) (sym c.self.view_is) c.loop-n.invariant.ahead in
    ap (λ (n : ℕ). Some n) (sym found.2) ∙ sym (first_found c.self.inside.cursors c.loop-n.at c.self.inside.products.rows found.0 found.1 held ahead)
    ∙ ap (λ (b : BookView). first_of (unheld_numbers b)) c.self.view_is

pub returns-then-not-holds-clause-ahead : goal.returns-then-not-holds-clause-ahead
returns-then-not-holds-clause-ahead c =
    let found = number_found _ c.in-Some.n c.in-Some.ensures.first in
    let ahead = subst (λ (b : BookView). AreAhead c.loop-n.at b.cursors b.rows) (sym c.self.view_is) c.loop-n.invariant.ahead in
    subst (λ (b : BookView). AreAhead c.in-Some.n b.cursors b.rows) c.self.view_is
    (subst (λ (n : ℕ). AreAhead n c.self.inside.cursors c.self.inside.products.rows) found.2
    (ahead_found c.self.inside.cursors c.loop-n.at c.self.inside.products.rows found.0 c.in-Some.ensures.rising found.1 ahead))

pub overflow_add-at : goal.overflow_add-at
overflow_add-at c =
    let found = number_found _ c.in-Some.n c.in-Some.ensures.first in
    let below =
    found_all (λ (k : Kept). k.number < c.self.inside.admitted) (at_number c.loop-n.at) c.self.inside.products.rows found.0
    (timed_below c.self.inside.last c.self.inside.admitted c.self.inside.products.rows c.self.invariant.timed) found.1 in
    omega (arith, below, found.2, c.self.invariant.admitted_small)

pub loop-n-smaller : goal.loop-n-smaller
loop-n-smaller c =
    let found = number_found _ c.in-Some.n c.in-Some.ensures.first in
    let below =
    found_all (λ (k : Kept). k.number < c.self.inside.admitted) (at_number c.loop-n.at) c.self.inside.products.rows found.0
    (timed_below c.self.inside.last c.self.inside.admitted c.self.inside.products.rows c.self.invariant.timed) found.1 in
    let above = at_least c.loop-n.at c.self.inside.products.rows found.0 found.1 in
    let end = ap (λ (b : BookView). b.admitted) c.self.view_is in
    omega (arith, below, above, found.2, end)

pub loop-n-preserved : goal.loop-n-preserved
loop-n-preserved c =
    record {
      above =
          (let found = number_found _ c.in-Some.n c.in-Some.ensures.first in let above = at_least c.loop-n.at c.self.inside.products.rows found.0 found.1 in omega
          (arith, above, found.2, c.loop-n.invariant.above));
      ahead = (
          let taken : c.holds.result ≡ true = c.if-not-holds.false in
          let found = number_found _ c.in-Some.n c.in-Some.ensures.first in
          let held = ap (λ (n : ℕ). is_held n c.self.inside.cursors) found.2 ∙ sym c.holds.ensures ∙ taken in
          let ahead = subst (λ (b : BookView). AreAhead c.loop-n.at b.cursors b.rows) (sym c.self.view_is) c.loop-n.invariant.ahead in
          subst (λ (b : BookView). AreAhead (c.in-Some.n + 1) b.cursors b.rows) c.self.view_is
          (subst (λ (n : ℕ). AreAhead (n + 1) c.self.inside.cursors c.self.inside.products.rows) found.2
          (ahead_more c.self.inside.cursors c.loop-n.at c.self.inside.products.rows found.0 c.in-Some.ensures.rising found.1 held ahead)));
    }

pub returns-clause-first : goal.returns-clause-first
returns-clause-first c =
    let none = no_number _ c.in_default.ensures.first in
    let ahead = subst (λ (b : BookView). AreAhead c.loop-n.at b.cursors b.rows) (sym c.self.view_is) c.loop-n.invariant.ahead in
    ap first_of (sym (none_found c.self.inside.cursors c.loop-n.at c.self.inside.products.rows none ahead)) ∙ ap (λ (b : BookView). first_of (unheld_numbers b)) c.self.view_is

pub returns-then-not-holds-clause-above : goal.returns-then-not-holds-clause-above
returns-then-not-holds-clause-above c =
    let found = number_found _ c.in-Some.n c.in-Some.ensures.first in
    let above = at_least c.loop-n.at c.self.inside.products.rows found.0 found.1 in
    omega (arith, above, found.2, c.loop-n.invariant.above)

pub returns-then-not-holds-clause-small : goal.returns-then-not-holds-clause-small
returns-then-not-holds-clause-small c =
    let found = number_found _ c.in-Some.n c.in-Some.ensures.first in
    let below =
    found_all (λ (k : Kept). k.number < c.self.inside.admitted) (at_number c.loop-n.at) c.self.inside.products.rows found.0
    (timed_below c.self.inside.last c.self.inside.admitted c.self.inside.products.rows c.self.invariant.timed) found.1 in
    omega (arith, below, found.2, c.self.invariant.admitted_small)

pub returns-then-not-holds-clause-apart : goal.returns-then-not-holds-clause-apart
returns-then-not-holds-clause-apart c =
    subst (λ (b : BookView). LieApart b.arena (occupied b)) c.self.view_is (subst (λ (a : ℕ). LieApart a (occupied_in c.self.inside.products)) (sym c.self.invariant.arena) c.self.invariant.apart)

pub returns-clause-apart : goal.returns-clause-apart
returns-clause-apart c =
    subst (λ (b : BookView). LieApart b.arena (occupied b)) c.self.view_is (subst (λ (a : ℕ). LieApart a (occupied_in c.self.inside.products)) (sym c.self.invariant.arena) c.self.invariant.apart)
