use Rattle.std.proofs.Common.{◌≡◌, ◌≤◌, ◌++◌, ◌∙◌, ℕ, [], ap, sym, append-nil, arith, rules}
use Rattle.std.proofs.lemmas.List.Elements.{All-push, All-same}
use Rattle.ldm_stats.specs.declared.place.TheConstants.{LAST_HOUR}
use Rattle.ldm_stats.specs.Place.{Place}
use Rattle.ldm_stats.specs.Totals.{Total}
use Rattle.ldm_stats.specs.Joining.{Entries}
use Rattle.ldm_stats.proofs.Hours.{hours_from_last, list_more, listed}
use Rattle.ldm_stats.proofs.kept.Kept.hours.Goals as goal

pub returns-clause-value : goal.returns-clause-value
returns-clause-value c =
    let none : c.loop-place.place-iterator ≡ [] = search rules in
    sym (append-nil c.loop-place.hours.items)
    ∙ (ap (λ (es : Entries). c.loop-place.hours.items ++ hours_from_last c.loop-place.last es) (sym none) ∙ (c.loop-place.invariant.3 ∙ listed c.args.self.now))

pub loop-place-preserved-then-is_other : goal.loop-place-preserved-then-is_other
loop-place-preserved-then-is_other c =
    let P : ℕ → Type 0 = λ hour. hour ≤ LAST_HOUR in
    let value = c.hour.ensures.value in
    let bound = c.hour.ensures.bound in
    let within : P c.hour.result = omega (arith, value, bound) in
    let entry : Place × Total = (c.in-Some.place.now, c.in-Some.field-0-1.now) in
    let added = c.in_ok-push.ensures.items in (
      tt,
      tt,
      All-same P _ _ added (All-push P c.loop-place.hours.items c.hour.result c.loop-place.invariant.2 within),
      list_more c.loop-place.last entry c.next.new.self c.loop-place.place-iterator c.loop-place.hours.items c.push.new.self.items _ c.hour.result c.hour-then-is_other.result
          c.in-Some.ensures.steps (sym c.is_other.ensures ∙ c.if-is_other.true) value c.hour-then-is_other.ensures.value added c.loop-place.invariant.3,
    )
