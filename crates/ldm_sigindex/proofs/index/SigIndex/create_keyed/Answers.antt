use Rattle.std.proofs.Common.{arith, replicate, ap, subst, sym, List, ◌∙◌}
use Rattle.std.proofs.lemmas.Nat.{pow_pos}
use Rattle.ldm_sigindex.specs.declared.entries.Entry.{Entry}
use Rattle.ldm_sigindex.specs.Entries.{IsKept, free, table_of}
use Rattle.ldm_sigindex.specs.Index.{Table}
use Rattle.ldm_sigindex.proofs.Kept.{none_of, only_none}
use Rattle.ldm_sigindex.proofs.Occupied.{kept_empty}
use Rattle.ldm_sigindex.proofs.index.SigIndex.create_keyed.Goals as goal

pub invariant_of-result : goal.invariant_of-result
invariant_of-result c =
    let places = c.next_power_of_two.result in
    let none = ap table_of (c.in_ok-slots.ensures.items_if_clones_equal (only_none _ (λ signature clone. clone))) ∙ none_of c.args.slots in
    let empty = kept_empty c.args.key places c.args.slots (omega (arith, c.next_power_of_two.ensures.lower_bound, c.next_power_of_two.ensures.power.1, pow_pos c.next_power_of_two.ensures.power.0)) (omega (arith, c.ranges.slots.fits)) in
    subst (λ (entries : List Entry). IsKept c.args.key entries (table_of c.in_ok-slots.slots.items)) (sym (c.in_ok-entries.ensures.items_if_clones_equal (λ _ same. same)))
    (subst (λ (table : Table). IsKept c.args.key (replicate places free) table) (sym none) empty)

pub returns : goal.returns
returns c = ap table_of (c.in_ok-slots.ensures.items_if_clones_equal (only_none _ (λ signature clone. clone))) ∙ none_of c.args.slots
