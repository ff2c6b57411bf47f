use Rattle.std.proofs.Common.{◌≡◌, ◌∙◌, ◌<◌, ℕ, [], ◌∷◌, ◌++◌, get_or, set, Option, Some, Ok, sym, ap, subst, arith}
use Rattle.std.specs.Prelude.{IfSome}
use Rattle.std.specs.Option.{option_map}
use Rattle.ldm_script.specs.declared.order.LentOrder.{LentOrder}
use Rattle.ldm_script.specs.Grammar.{read_line}
use Rattle.ldm_script.specs.OrderView.{order_of, order_with}
use Rattle.ldm_crowd.specs.OrdersView.{AreDealt, orders_in}
use Rattle.ldm_crowd.proofs.Dealing.{dealt-more, length-dealt}
use Rattle.ldm_crowd.proofs.orders.deal.Goals as goal

below : (o : Option LentOrder) (order : LentOrder) (actors : ℕ) → o ≡ Some order → IfSome o (λ (x : LentOrder). x.actor < actors) → order.actor < actors
below o order actors is small = subst (λ (x : Option LentOrder). IfSome x (λ (y : LentOrder). y.actor < actors)) is small

pub bounds-parts-get : goal.bounds-parts-get
bounds-parts-get c =
    let small = below c.in-Ok-Some.field-0 c.in-Ok-Some.order c.args.actors c.in-Ok-Some.field-0-is c.in-Ok-Some.ensures.actor in
    omega (arith, small, c.get.ensures.value, length-dealt c.args.actors c.requires.parts.0 c.args.parts.now c.requires.parts.1)

pub add-requires : goal.add-requires
add-requires c =
    let small = below c.in-Ok-Some.field-0 c.in-Ok-Some.order c.args.actors c.in-Ok-Some.field-0-is c.in-Ok-Some.ensures.actor in
    let dealt = c.requires.parts.1 in
    let same = dealt.same c.get.result c.index-parts-get.result (omega (arith, small, c.get.ensures.value, length-dealt c.args.actors c.requires.parts.0 c.args.parts.now dealt)) in (
      order_of (order_with c.read_line_into.new.info c.in-Ok-Some.order),
      ap (λ (n : ℕ). read_line n c.args.line.now) same ∙ c.in-Ok-Some.ensures.read ∙ ap (λ (o : Option LentOrder). Ok (option_map (λ order. order_of (order_with c.read_line_into.new.info order)) o)) c.in-Ok-Some.field-0-is,
    )

pub returns-in-Ok-clause-dealt : goal.returns-in-Ok-clause-dealt
returns-in-Ok-clause-dealt c = λ done dealt.
    let small = below c.in-Ok-Some.field-0 c.in-Ok-Some.order c.args.actors c.in-Ok-Some.field-0-is c.in-Ok-Some.ensures.actor in
    let is : read_line c.args.actors c.args.line.now ≡ Ok (Some (order_of (order_with c.read_line_into.new.info c.in-Ok-Some.order))) =
    c.in-Ok-Some.ensures.read ∙ ap (λ (o : Option LentOrder). Ok (option_map (λ order. order_of (order_with c.read_line_into.new.info order)) o)) c.in-Ok-Some.field-0-is in
    let at = c.get.ensures.value in
    let part_is = subst (λ (n : ℕ). c.add.new.self ≡ record (get_or c.args.parts.now n c.index-parts-get.result) { lines = (get_or c.args.parts.now n c.index-parts-get.result).lines ++ c.args.line.now ∷ [] }) at c.in-Ok.ensures in
    subst (λ (n : ℕ). AreDealt c.args.actors (done ++ orders_in c.args.actors c.args.line.now) (set c.args.parts.now n c.add.new.self)) (sym at)
    (dealt-more c.args.actors done c.args.parts.now c.args.line.now (order_of (order_with c.read_line_into.new.info c.in-Ok-Some.order)) c.index-parts-get.result c.add.new.self dealt is small part_is)
