use Rattle.std.proofs.Common.{◌≡◌, ◌==◌, not, remove, sym, ap, ◌∙◌, subst, arith}
use Rattle.std.specs.List.{Any, filter}
use Rattle.std.proofs.lemmas.List.{length-map}
use Rattle.ldm_timeindex.specs.Kept.{queued_of, all_queued}
use Rattle.ldm_timeindex.specs.Ring.{Held}
use Rattle.ldm_timeindex.specs.Times.{Queued, Times, IsRising}
use Rattle.ldm_timeindex.proofs.Rising.{number_is_at, others_left, queued_left, rising_left}
use Rattle.ldm_timeindex.proofs.time_index.TimeIndex.take_out.Goals as goal

-- what a read past the end would give
abbrev nothing : Queued
nothing = record { n = 0; time = 0; slot = 0 }

pub remove-requires : goal.remove-requires
remove-requires c =
    let there = number_is_at c.args.n (all_queued c.self.inside.ring.entries) nothing c.self.invariant (subst (λ (t : Times). Any (λ x. x.n ≡ c.args.n) t.entries) (sym c.self.view_is) c.requires) in
    omega (arith, there.0, c.index_of-index.ensures, length-map c.self.inside.ring.entries queued_of)

pub returns-clause-rising : goal.returns-clause-rising
returns-clause-rising c =
    let after = ap (λ (held : Held). all_queued held.entries) c.remove.ensures ∙ queued_left c.self.inside.ring.entries c.index_of-index.result in
    subst IsRising (sym after) (rising_left (all_queued c.self.inside.ring.entries) c.index_of-index.result c.self.invariant)

pub invariant_of-self : goal.invariant_of-self
invariant_of-self c = returns-clause-rising c

pub returns-clause-entries : goal.returns-clause-entries
returns-clause-entries c =
    let entries = c.self.inside.ring.entries in
    let there = number_is_at c.args.n (all_queued entries) nothing c.self.invariant (subst (λ (t : Times). Any (λ x. x.n ≡ c.args.n) t.entries) (sym c.self.view_is) c.requires) in
    let after = ap (λ (held : Held). all_queued held.entries) c.remove.ensures ∙ queued_left entries c.index_of-index.result ∙ ap (remove (all_queued entries)) c.index_of-index.ensures in
    after
    ∙ sym (others_left c.args.n (all_queued entries) _ nothing c.self.invariant there.0 there.1)
    ∙ ap (λ (t : Times). filter (λ (x : Queued). not (x.n == c.args.n)) t.entries) c.self.view_is
