use Rattle.std.proofs.Common.{◌≡◌, ◌∙◌, Option, Some, None, Ok, sym, ap}
use Rattle.std.specs.Option.{option_map}
use Rattle.ldm_script.specs.declared.order.LentOrder.{LentOrder}
use Rattle.ldm_script.specs.Grammar.{read_line}
use Rattle.ldm_script.specs.OrderView.{order_of, order_with}
use Rattle.ldm_crowd.specs.OrdersView.{asked_of_reading}
use Rattle.ldm_crowd.proofs.ActorLemmas.{line_asks, asked_at}
use Rattle.ldm_crowd.proofs.actor_lines.ActorLines.act.Goals as goal

pub unreachable-requires : goal.unreachable-requires
unreachable-requires c =
    let asks = line_asks c.self.inside.actors c.self.inside.lines.items c.args.self.now c.self.view_is c.args.i c.requires c.index.result.now c.index.ensures c.self.invariant.1 in
    let is : read_line c.self.inside.actors c.index.result.now.now ≡ Ok None = c.in-Ok-None.ensures.read ∙ ap (λ (o : Option LentOrder). Ok (option_map (λ order. order_of (order_with c.read_line_into.new.info order)) o)) c.in-Ok-None.field-0-is in
    cc (asks.1, is)

pub unreachable-requires-in-Err : goal.unreachable-requires-in-Err
unreachable-requires-in-Err c =
    let asks = line_asks c.self.inside.actors c.self.inside.lines.items c.args.self.now c.self.view_is c.args.i c.requires c.index.result.now c.index.ensures c.self.invariant.1 in
    cc (asks.1, c.in-Err.ensures.read)

pub returns-clause-asked : goal.returns-clause-asked
returns-clause-asked c =
    let is : read_line c.self.inside.actors c.index.result.now.now ≡ Ok (Some (order_of (order_with c.read_line_into.new.info c.in-Ok-Some.field-0-0))) = c.in-Ok-Some.ensures.read ∙ ap (λ (o : Option LentOrder). Ok (option_map (λ order. order_of (order_with c.read_line_into.new.info order)) o)) c.in-Ok-Some.field-0-is in
    sym (asked_at c.self.inside.actors c.self.inside.lines.items c.args.self.now c.self.view_is c.args.i c.requires c.index.result.now c.index.ensures ∙ ap asked_of_reading is)
