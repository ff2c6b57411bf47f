use Rattle.std.proofs.Common.{ap}
use Rattle.ldm_shared.specs.Passes.{PassView}
use Rattle.ldm_chain.proofs.NodeLemmas.{first-is, new-only, played-stands}
use Rattle.ldm_chain.proofs.nodes.first_node.Goals as goal

pub put_products-requires-clause-after_calls : goal.put_products-requires-clause-after_calls
put_products-requires-clause-after_calls g c = played-stands c.args.arena c.args.slots c.args.script.now c.in_ok-book.book c.in_ok-book.ensures.played

pub put_products-requires-clause-not_called : goal.put_products-requires-clause-not_called
put_products-requires-clause-not_called g c = ap (λ (p : PassView). p.seen) c.in_ok-node.ensures.pass

pub returns-clause-first : goal.returns-clause-first
returns-clause-first g c =
    first-is c.args.arena c.args.slots 0 c.args.script.now c.in_ok-class.class c.in_ok-book.book c.in_ok-node.node c.put_products.new.pass c.regions_lie_apart.ensures.slots
    c.in_ok-book.ensures.played c.in_ok-node.ensures (new-only c.calls_made.ensures.new c.args.arena c.args.slots 0 c.in_ok-class.class c.in_ok-node.node c.in_ok-node.ensures)
    c.put_products.ensures.kept c.put_products.ensures.seen c.put_products.ensures.put c.put_products.ensures.few
