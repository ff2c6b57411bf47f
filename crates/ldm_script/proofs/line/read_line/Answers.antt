use Rattle.std.proofs.Common.{◌≡◌, ◌∙◌, Option, Some, Ok, ap}
use Rattle.std.specs.Option.{option_map}
use Rattle.ldm_script.specs.declared.order.LentOrder.{LentOrder}
use Rattle.ldm_script.specs.Grammar.{read_line}
use Rattle.ldm_script.specs.OrderView.{order_of, order_with}
use Rattle.ldm_script.proofs.Askable.{writable_order}
use Rattle.ldm_script.proofs.line.read_line.Goals as goal

pub returns-in-Ok-Some-clause-writable : goal.returns-in-Ok-Some-clause-writable
returns-in-Ok-Some-clause-writable c =
    let info = c.read_line_into.new.info in
    let order = order_with info c.in-Ok-Some.field-0-0 in
    let is : read_line c.args.actors c.args.line.now ≡ Ok (Some (order_of order)) =
    c.in-Ok-Some.ensures.read ∙ ap (λ (o : Option LentOrder). Ok (option_map (λ found. order_of (order_with info found)) o)) c.in-Ok-Some.field-0-is in
    rw c.with.ensures (writable_order c.args.actors c.args.line.now order is)
