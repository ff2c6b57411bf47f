use Rattle.std.proofs.Common.{◌≡◌, ◌∙◌, List, refl, sym, ap, subst, arith}
use Rattle.std.specs.Prelude.{remove}
use Rattle.std.proofs.lemmas.List.{take_at}
use Rattle.ldm_chain.specs.declared.node.ChainNode.{ChainNode}
use Rattle.ldm_chain.specs.Work.{work_of}
use Rattle.ldm_chain.specs.CommandNodes.{AreFed}
use Rattle.ldm_chain.proofs.NodeLemmas.{are-fed, asks, asks-few}
use Rattle.ldm_chain.proofs.UnfedLemmas.{not-fed}
use Rattle.ldm_chain.proofs.nodes.fed_nodes.Goals as goal

pub chain-requires-clause-nodes : goal.chain-requires-clause-nodes
chain-requires-clause-nodes g c =
    let setup = c.args.setup in
    let made = c.in_ok-nodes.ensures in
    (asks setup.arena setup.slots setup.max_hereis c.calls_made.ensures.new c.args.script.now setup.classes.items c.in_ok-first.first made.0 c.as_mut_slice.result.now
    (c.as_mut_slice.ensures.value ∙ made.1) c.in_ok-first.ensures.first made.2 c.requires.classes).0

pub chain-requires-clause-chain : goal.chain-requires-clause-chain
chain-requires-clause-chain g c =
    let setup = c.args.setup in
    let made = c.in_ok-nodes.ensures in
    (asks setup.arena setup.slots setup.max_hereis c.calls_made.ensures.new c.args.script.now setup.classes.items c.in_ok-first.first made.0 c.as_mut_slice.result.now
    (c.as_mut_slice.ensures.value ∙ made.1) c.in_ok-first.ensures.first made.2 c.requires.classes).1

pub chain-requires-clause-few : goal.chain-requires-clause-few
chain-requires-clause-few g c =
    let setup = c.args.setup in
    let made = c.in_ok-nodes.ensures in
    asks-few setup.arena setup.slots setup.max_hereis setup.classes.items c.in_ok-first.first made.0 c.as_mut_slice.result.now (c.as_mut_slice.ensures.value ∙ made.1) made.2 c.requires.few

pub returns-in-Done-clause-fed : goal.returns-in-Done-clause-fed
returns-in-Done-clause-fed g c =
    let made = c.in_ok-nodes.ensures in
    let work = work_of c.args.setup in
    let before = g.C.Clock.tells c.args.clock.now in
    let behind = g.C.Clock.tells c.chain.new.clock in
    let news = c.chain.new.nodes in
    let fed = are-fed c.args.policy.now work c.args.script.now before behind c.in_ok-first.first made.0 c.as_mut_slice.result.now news (c.as_mut_slice.ensures.value ∙ made.1)
    c.chain.ensures.kept made.2 c.in_ok-first.ensures.first (c.in-Done.ensures.queues refl) c.requires.few in
    let left : c.remove-first.new.self.items ≡ remove news 0 =
    c.remove-first.ensures.items
    ∙ ap (λ (ns : List ChainNode). remove ns 0) (take_at news _ c.in_ok-nodes.nodes.len (omega (arith, c.chain.auto.nodes, c.as_mut_slice.ensures.len))) in
    subst (λ (ns : List ChainNode). AreFed work c.args.policy.now c.args.script.now ns before behind) (sym left) fed

pub returns-in_default-clause-unfed : goal.returns-in_default-clause-unfed
returns-in_default-clause-unfed g c =
    let made = c.in_ok-nodes.ensures in
    not-fed c.args.policy.now (work_of c.args.setup) c.requires.slots.most c.chain.result c.args.script.now (g.C.Clock.tells c.args.clock.now) (g.C.Clock.tells c.chain.new.clock)
    c.in_ok-first.first made.0 c.as_mut_slice.result.now c.chain.new.nodes (c.as_mut_slice.ensures.value ∙ made.1) c.chain.ensures.kept made.2 c.in_ok-first.ensures.first
    (c.chain.ensures.broken c.in_default.not-Done)
