use Rattle.std.proofs.Common.{◌≡◌, ◌∙◌, ◌+◌, ◌-◌, ◌∷◌, ◌++◌, [], ℕ, sym, ap, arith}
use Rattle.std.specs.List.{range_with_len}
use Rattle.std.specs.Prelude.{Option}
use Rattle.atomic_table.specs.Table.{Me}
use Rattle.ldm_book.specs.View.{BookView}
use Rattle.ldm_shared.specs.declared.sizes.Sizes.{Sizes}
use Rattle.ldm_shared.specs.declared.view.View.{View}
use Rattle.ldm_shared.specs.Passes.{PassView, new_pass}
use Rattle.ldm_shared.specs.Joining.{without_pass}
use Rattle.ldm_shared.proofs.OpeningPlaces.{dealt-actors, dealt-more, items_more}
use Rattle.ldm_shared.proofs.shared.Shared.create_keyed.Goals as goal

pub deal-requires-clause-first : goal.deal-requires-clause-first
deal-requires-clause-first c =
    let sizes : Sizes = record { arena = c.args.arena; slots = c.args.slots; passes = c.args.passes } in
    let i = c.loop-i.i in
    let me = c.loop-i.invariant.0.me in
    let actor : c.in-Some.actor ≡ i = c.in-Some.ensures.1 in (
      range_with_len (i + 1) (c.args.passes - (i + 1)),
      ap (λ (m : Me (Option BookView) View). m.0.actors) me ∙ (dealt-actors sizes i c.loop-i-test.true ∙ ap (λ (k : ℕ). k ∷ range_with_len (i + 1) (c.args.passes - (i + 1))) (sym actor)),
    )

pub loop-i-preserved : goal.loop-i-preserved
loop-i-preserved c =
    let sizes : Sizes = record { arena = c.args.arena; slots = c.args.slots; passes = c.args.passes } in
    let i = c.loop-i.i in
    let inv = c.loop-i.invariant in
    let me = inv.0.me in
    let actor : c.in-Some.actor ≡ i = c.in-Some.ensures.1 in
    let shared = c.in_ok-shared.shared in
    let pushed : c.push_reserved.new.self.items ≡ c.loop-i.all.items ++ new_pass shared i ∷ [] =
    c.push_reserved.ensures.items ∙ ap (λ (p : PassView). c.loop-i.all.items ++ p ∷ []) (c.deal.ensures.pass ∙ ap (new_pass shared) actor) in (
      record {
        queue = c.deal.ensures.same.table ∙ inv.0.queue;
        me = c.deal.ensures.left ∙ ap (λ (v : View). (v, [])) (ap (λ (m : Me (Option BookView) View). without_pass m.0) me ∙ dealt-more sizes i c.loop-i-test.true);
        items_are = items_more shared i c.loop-i.all.items c.push_reserved.new.self.items inv.0.items_are pushed;
      },
      omega (arith, c.push_reserved.ensures.len, inv.1),
      c.push_reserved.ensures.capacity ∙ inv.2,
    )
