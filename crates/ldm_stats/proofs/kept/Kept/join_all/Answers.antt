use Rattle.std.proofs.Common.{◌≡◌, ◌+◌, [], ◌∷◌, sym, ap, ◌∙◌, subst, arith}
use Rattle.std.specs.Map.Iter.{deref_pair}
use Rattle.std.proofs.lemmas.Map.Iter.{rest_more}
use Rattle.ldm_stats.specs.Place.{Place}
use Rattle.ldm_stats.specs.Totals.{Total}
use Rattle.ldm_stats.specs.Joining.{Entries, count_of, joined, total_at, IsAscending}
use Rattle.ldm_stats.proofs.Joins.{joined_further, ascending_tail, count_front}
use Rattle.ldm_stats.proofs.kept.Kept.join_all.Goals as goal

pub loop-place-preserved : goal.loop-place-preserved
loop-place-preserved c =
    let entry : Place × Total = (c.in-Some.place.now, c.in-Some.total.now) in
    let rest : Entries = c.next.new.self in
    let left : c.loop-place.place-iterator ≡ entry ∷ rest = rest_more deref_pair c.loop-place.place-iterator c.next.new.self c.next.result _ c.in-Some.is c.next.ensures.steps in
    let same : c.in_ok-clone.field-0 ≡ entry.0 = c.in_ok-clone.ensures.cases in
    let before = c.loop-place.invariant in
    let ascends : IsAscending (entry ∷ rest) = subst IsAscending left before.4 in
    let counts : count_of c.loop-place.self + count_of (entry ∷ rest) ≡ count_of c.args.self.now + count_of c.args.others.now =
    (let P : Entries → Type 0 = λ es. count_of c.loop-place.self + count_of es ≡ count_of c.args.self.now + count_of c.args.others.now in subst P left before.3) in (
      tt,
      tt,
      (λ place.
          ap (λ (o : _). joined o (total_at place rest)) (c.in_ok-join.ensures.totals place ∙ ap (λ (p : Place). joined (total_at place c.loop-place.self) (total_at place ((p, entry.1) ∷ []))) same)
          ∙ joined_further place (total_at place c.loop-place.self) entry rest ascends
          ∙ ap (λ (es : Entries). joined (total_at place c.loop-place.self) (total_at place es)) (sym left)
          ∙ before.2 place),
      omega (arith, counts, c.in_ok-join.ensures.count, count_front entry rest),
      ascending_tail entry rest ascends,
    )
