use Rattle.std.proofs.Common.{◌≡◌, ◌∙◌, List, length, ap, arith}
use Rattle.std.proofs.lemmas.List.{length-map, with_items_is}
use Rattle.ldm_crowd.specs.OrdersView.{ActorLinesView, asked_lines, script_in}
use Rattle.ldm_crowd.proofs.Dealing.{length-dealt}
use Rattle.ldm_crowd.proofs.orders.Orders.read.Goals as goal

pub returns-clause-count : goal.returns-clause-count
returns-clause-count c =
    let parts = c.deal_all.new.parts in
    let dealt = c.in_ok-deal_all.ensures.dealt in
    let size : length parts ≡ c.in_ok-parts.parts.len = omega (arith, c.deal_all.auto.parts, ap length c.deref_mut.ensures.value, c.in_ok-parts.parts.ok) in
    ap (λ (ps : List ActorLinesView). length (script_in ps)) (with_items_is c.in_ok-parts.parts parts size) ∙ length-map parts asked_lines ∙ length-dealt c.args.actors dealt.0 parts dealt.1
