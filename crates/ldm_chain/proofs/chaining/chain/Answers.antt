use Rattle.ldm_chain.proofs.NodeCauses.{causes-of, stands-of}
use Rattle.ldm_chain.proofs.NodeQueues.{LinkLaw, queues-of}
use Rattle.ldm_chain.proofs.chaining.chain.Goals as goal

pub returns-clause-queues : goal.returns-clause-queues
returns-clause-queues g c = λ done.
    let law : LinkLaw = record {
      queue = c.a_link_passes_on.ensures.queue;
      unchanged = c.a_link_passes_on.ensures.unchanged;
      only = c.a_link_passes_on.ensures.only;
      calls = c.a_link_passes_on.ensures.calls;
    } in
    queues-of law c.args.policy.now c.args.nodes.now c.in-Some.first.now c.in-Some.others.now c.link_all.new.from c.link_all.new.nodes
    (g.C.Clock.tells c.args.clock.now) (g.C.Clock.tells c.link_all.new.clock) c.in-Some.ensures.cases.0 c.requires.chain (c.link_all.ensures.done done)

pub returns-clause-broken : goal.returns-clause-broken
returns-clause-broken g c = λ more.
    let law : LinkLaw = record {
      queue = c.a_link_passes_on.ensures.queue;
      unchanged = c.a_link_passes_on.ensures.unchanged;
      only = c.a_link_passes_on.ensures.only;
      calls = c.a_link_passes_on.ensures.calls;
    } in
    let rules = c.args.policy.now in
    let end = c.link_all.result in
    let first = c.in-Some.first.now in
    let others = c.in-Some.others.now in
    let is = c.in-Some.ensures.cases.0 in
    let broken = c.link_all.ensures.broken more in (
      broken.0,
      broken.1,
      causes-of law c.a_break_has_a_cause.ensures.cause rules end c.args.nodes.now first others c.link_all.new.from c.link_all.new.nodes broken.0 is c.requires.chain broken.2,
      stands-of law c.a_break_has_a_cause.ensures.kept rules end c.args.nodes.now first others c.link_all.new.from c.link_all.new.nodes broken.0 is c.requires.chain broken.2,
    )
