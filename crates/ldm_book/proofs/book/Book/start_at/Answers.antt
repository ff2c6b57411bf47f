use Rattle.std.proofs.Common.{◌∙◌, ◌<◌, ℕ, true, Option, Some, sym, ap, arith}
use Rattle.std.specs.List.{find}
use Rattle.ldm_book.specs.View.{BookView, Kept}
use Rattle.ldm_book.specs.Products.{at_number, is_later}
use Rattle.ldm_book.specs.Lookup.{kept_signature, kept_with}
use Rattle.ldm_book.specs.Making.{number_or_end, start_at}
use Rattle.ldm_book.specs.Sound.{view_of}
use Rattle.ldm_book.proofs.FreeLemmas.{number_found}
use Rattle.ldm_book.proofs.IsTimedLemmas.{timed_below}
use Rattle.ldm_book.proofs.MeetingLemmas.{found_all}
use Rattle.ldm_book.proofs.StartLemmas.{end_of_none, find_zero, look_found, number_of_some}
use Rattle.ldm_book.proofs.book.Book.start_at.Goals as goal

pub overflow_add-result : goal.overflow_add-result
overflow_add-result c =
    let inside = c.self.inside in
    let found = look_found (kept_with c.in-AfterSignature.signature.0 inside.products.rows) c.in-Queued.n c.in-Queued.time c.in-Queued.ensures in
    let below =
    found_all (λ (k : Kept). k.number < inside.admitted) (kept_signature c.in-AfterSignature.signature.0) inside.products.rows found.0
    (timed_below inside.last inside.admitted inside.products.rows c.self.invariant.timed) found.1 in
    omega (arith, below, found.2, c.self.invariant.admitted_small)

pub returns-in-Queued-clause-within : goal.returns-in-Queued-clause-within
returns-in-Queued-clause-within c =
    let inside = c.self.inside in
    let found = look_found (kept_with c.in-AfterSignature.signature.0 inside.products.rows) c.in-Queued.n c.in-Queued.time c.in-Queued.ensures in
    let below =
    found_all (λ (k : Kept). k.number < inside.admitted) (kept_signature c.in-AfterSignature.signature.0) inside.products.rows found.0
    (timed_below inside.last inside.admitted inside.products.rows c.self.invariant.timed) found.1 in
    let end = ap (λ (b : BookView). b.admitted) c.self.view_is in
    omega (arith, below, found.2, end)

pub returns-in-Some-clause-at : goal.returns-in-Some-clause-at
returns-in-Some-clause-at c =
    let rows = c.self.inside.products.rows in
    ap (λ (n : ℕ). Some n) (number_of_some (view_of c.self.inside) (find (at_number 0) rows) c.in-Some.n c.in-Some.ensures.first)
    ∙ ap (λ (o : Option Kept). Some (number_or_end (view_of c.self.inside) o)) (find_zero rows)
    ∙ ap (λ (b : BookView). Some (number_or_end b (find (λ (k : Kept). true) b.rows))) c.self.view_is
    ∙ ap (start_at c.args.self.now) (sym c.in-Oldest.is)

pub returns-in-None-clause-at : goal.returns-in-None-clause-at
returns-in-None-clause-at c =
    let rows = c.self.inside.products.rows in
    ap (λ (n : ℕ). Some n) (end_of_none (view_of c.self.inside) (find (at_number 0) rows) c.in-None.ensures.first)
    ∙ ap (λ (o : Option Kept). Some (number_or_end (view_of c.self.inside) o)) (find_zero rows)
    ∙ ap (λ (b : BookView). Some (number_or_end b (find (λ (k : Kept). true) b.rows))) c.self.view_is
    ∙ ap (start_at c.args.self.now) (sym c.in-Oldest.is)

pub returns-in-Some-clause-within : goal.returns-in-Some-clause-within
returns-in-Some-clause-within c =
    let inside = c.self.inside in
    let found = number_found (find (at_number 0) inside.products.rows) c.in-Some.n c.in-Some.ensures.first in
    let below =
    found_all (λ (k : Kept). k.number < inside.admitted) (at_number 0) inside.products.rows found.0 (timed_below inside.last inside.admitted inside.products.rows c.self.invariant.timed) found.1 in
    let end = ap (λ (b : BookView). b.admitted) c.self.view_is in
    omega (arith, below, found.2, end)

pub returns-in-Some-first_after-clause-within : goal.returns-in-Some-first_after-clause-within
returns-in-Some-first_after-clause-within c =
    let inside = c.self.inside in
    let found = number_found (find (is_later c.in-After.time) inside.products.rows) c.in-Some-first_after.n c.in-Some-first_after.ensures in
    let below =
    found_all (λ (k : Kept). k.number < inside.admitted) (is_later c.in-After.time) inside.products.rows found.0
    (timed_below inside.last inside.admitted inside.products.rows c.self.invariant.timed) found.1 in
    let end = ap (λ (b : BookView). b.admitted) c.self.view_is in
    omega (arith, below, found.2, end)
