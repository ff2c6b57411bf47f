use Rattle.std.proofs.Common.{sym, ap, ◌∙◌, subst}
use Rattle.std.specs.List.{AllByRecursion}
use Rattle.std.proofs.lemmas.List.{map_push}
use Rattle.std.proofs.lemmas.List.Elements.{recursion_from_All}
use Rattle.ldm_timeindex.specs.Kept.{queued_of, all_queued}
use Rattle.ldm_timeindex.specs.Ring.{Held}
use Rattle.ldm_timeindex.specs.Times.{Times, Precedes, IsRising}
use Rattle.ldm_timeindex.specs.declared.entry.Entry.{Entry}
use Rattle.ldm_timeindex.proofs.Rising.{rising_more}
use Rattle.ldm_timeindex.proofs.time_index.TimeIndex.push.Goals as goal

pub returns-clause-rising : goal.returns-clause-rising
returns-clause-rising c =
    let entry : Entry = record { n = c.args.n; time = c.args.time; slot = c.args.slot } in
    let entries = c.self.inside.ring.entries in
    let later = recursion_from_All (λ y. Precedes y (queued_of entry)) c.args.self.now.entries c.requires.later in
    let later = subst (λ (t : Times). AllByRecursion (λ y. Precedes y (queued_of entry)) t.entries) (sym c.self.view_is) later in
    let after = ap (λ (held : Held). all_queued held.entries) c.push.ensures ∙ map_push queued_of entries entry in
    subst IsRising (sym after) (rising_more (all_queued entries) (queued_of entry) c.self.invariant later)

pub invariant_of-self : goal.invariant_of-self
invariant_of-self c = returns-clause-rising c
