use Rattle.std.proofs.Common.{rules, ◌≡◌, ◌+◌, ap, ◌∙◌, arith, Some}
use Rattle.std.proofs.lemmas.Grind.{common_steps}
use Rattle.std.specs.Prelude.{Option, unwrap_or}
use Rattle.std.specs.BTreeMap.Entry.{map_with_value}
use Rattle.ldm_stats.specs.Totals.{Total}
use Rattle.ldm_stats.specs.Joining.{Entries, count_of, joined, total_at}
use Rattle.ldm_stats.proofs.Joins.{count_at, put_at, put_count, or_none_count, or_none_joined}
use Rattle.ldm_stats.proofs.kept.Kept.join.Goals as goal

pub plus-requires : goal.plus-requires
plus-requires c =
    let before = total_at c.args.place c.args.self.now in
    let had = c.in_ok-self-inside.ensures.value ∙ ap (λ (es : Entries). total_at c.args.place es) c.self.view_is in
    let kept = c.or_insert-kept.ensures.value ∙ ap (λ (o : Option Total). unwrap_or o c.none.result) had in
    omega (arith, or_none_count before c.none.result c.or_insert-kept.result.now c.none.ensures kept, count_at c.args.place c.args.self.now, c.requires)

both : (c : goal.After-self-4-1) → Some c.plus.result ≡ joined (total_at c.args.place c.self.inside.map.entries) (Some c.args.total)
both c =
    ap (λ (t : Total). Some t) c.plus.ensures
    ∙ or_none_joined (total_at c.args.place c.self.inside.map.entries) c.none.result c.or_insert-kept.result.now c.args.total c.none.ensures
    (c.or_insert-kept.ensures.value ∙ ap (λ (o : Option Total). unwrap_or o c.none.result) c.in_ok-self-inside.ensures.value)

counted : (c : goal.After-self-4-1) →
    count_of (map_with_value c.in_ok-self-inside.field-0 c.plus.result).entries ≡ count_of c.self.inside.map.entries + c.args.total.count
counted c =
    put_count c.self.inside.map.entries (map_with_value c.in_ok-self-inside.field-0 c.plus.result).entries c.args.place c.args.total c.plus.result
    c.in_ok-self-inside.ensures.ordered (both c) (c.in_ok-self-inside.ensures.update.1 c.plus.result)

pub returns-clause-totals : goal.returns-clause-totals
returns-clause-totals c = λ at.
    let same = c.in_ok-self-inside.ensures.same_map in
    let updates = (c.in_ok-self-inside.ensures.update.0 c.plus.result).0 at in
    let puts = put_at at c.args.place c.args.total c.plus.result c.self.inside.map.entries _ (both c) updates in
    rw (← c.self.view_is) (search (rules, same, puts))

pub returns-clause-count : goal.returns-clause-count
returns-clause-count c =
    let same = c.in_ok-self-inside.ensures.same_map in
    let value = counted c in
    rw (← c.self.view_is) (search (rules, same, value))

pub invariant_of-self-2 : goal.invariant_of-self-2
invariant_of-self-2 c =
    let same = c.in_ok-self-inside.ensures.same_map in
    let ordered = c.in_ok-self-inside.ensures.update.2 c.plus.result in
    (search (rules, same, ordered), grind (arith, common_steps, same, counted c, c.self.invariant.1, c.from.ensures, c.count.ensures))
