use Rattle.ldm_chain.proofs.NodeCauses.{breaks-behind, breaks-first}
use Rattle.ldm_chain.proofs.NodeLinks.{keeps-all, first-kept, first-done}
use Rattle.ldm_chain.proofs.chaining.+link_all.Goals as goal

pub returns-in-Some-feed_next-clause-kept : goal.returns-in-Some-feed_next-clause-kept
returns-in-Some-feed_next-clause-kept g t c =
    first-kept c.args.nodes.now c.in-Some.to.now c.feed_next.new.to c.in-Some.behind.now c.in-Some.behind.now c.in-Some.ensures.cases.0
    c.feed_next.ensures.to (keeps-all c.in-Some.behind.now)

pub returns-in-None-clause-done : goal.returns-in-None-clause-done
returns-in-None-clause-done g t c = λ done.
    first-done c.args.i c.now-now.result c.host_of-host.result c.args.policy.now c.args.from.now.pass c.feed_next.new.from.pass c.args.nodes.now
    c.in-Some.to.now c.feed_next.new.to c.link_all.new.from c.in-Some.behind.now c.link_all.new.nodes
    (g.C.Clock.tells c.args.clock.now) (g.C.Clock.tells c.now-now.new.self) (g.C.Clock.tells c.link_all.new.clock)
    c.in-Some.ensures.cases.0 c.host_of-host.ensures c.in-None.ensures.links c.now-now.ensures (c.link_all.ensures.done done)

pub returns-in-Some-feed_next-clause-broken : goal.returns-in-Some-feed_next-clause-broken
returns-in-Some-feed_next-clause-broken g t c = λ more.
    breaks-first c.args.i c.now-now.result c.host_of-host.result c.args.policy.now c.end_by.result c.in-Some-feed_next.why c.args.from.now c.feed_next.new.from c.args.nodes.now
    c.in-Some.to.now c.feed_next.new.to c.in-Some.behind.now (g.C.Clock.tells c.args.clock.now) (g.C.Clock.tells c.now-now.new.self)
    c.in-Some.ensures.cases.0 c.host_of-host.ensures c.end_by.ensures c.in-Some-feed_next.ensures.broken c.now-now.ensures

pub returns-in-None-clause-broken : goal.returns-in-None-clause-broken
returns-in-None-clause-broken g t c = λ more.
    breaks-behind c.args.i c.now-now.result c.host_of-host.result c.args.policy.now c.link_all.result c.args.from.now c.feed_next.new.from c.args.nodes.now
    c.in-Some.to.now c.feed_next.new.to c.link_all.new.from c.in-Some.behind.now c.link_all.new.nodes
    (g.C.Clock.tells c.args.clock.now) (g.C.Clock.tells c.now-now.new.self) (g.C.Clock.tells c.link_all.new.clock)
    c.in-Some.ensures.cases.0 c.host_of-host.ensures c.feed_next.ensures.to c.in-None.ensures.links c.now-now.ensures (c.link_all.ensures.broken more)
