use Rattle.std.proofs.Common.{Option, sym, subst}
use Rattle.ldm_types.specs.declared.class.ClassSpec.{ClassSpec}
use Rattle.ldm_chain.specs.declared.node.Break.{Break}
use Rattle.ldm_chain.specs.Breaking.{CameRest}
use Rattle.ldm_chain.specs.Linking.{Fed, asked_by}
use Rattle.ldm_chain.specs.MirrorView.{MirrorView}
use Rattle.ldm_chain.proofs.Broken.{rest-ended}
use Rattle.ldm_chain.proofs.feeding.Feeding.feed_fewer.Goals as goal

pub returns-clause-fed : goal.returns-clause-fed
returns-clause-fed g c =
    let feeding = c.args.self.now in
    let host = feeding.host.now in
    let rules = feeding.policy.now in
    let max = feeding.max_hereis in
    let asked = asked_by host rules 1 feeding.class.now max in
    let pass = c.args.pass.now in
    let new = c.feed_over-end.new.pass in
    let mirror = c.args.mirror.now in
    let after = c.feed_over-end.new.mirror in
    let why = c.feed_over-end.result in
    let fewer = c.in-Ok.fewer in
    let by_class = subst (λ (class : ClassSpec). Fed why (asked_by host rules 2 class max) pass new c.take_request.new.self after) c.in-Ok-build_fewer.ensures.0 c.feed_over-end.ensures.fed in
    let fed = subst (λ (m : MirrorView). Fed why (asked_by host rules 2 fewer max) pass new m after) c.take_request.ensures by_class in
    subst (λ (end : Option Break). CameRest end asked pass new mirror after) (sym c.ended.ensures)
    (rest-ended asked pass new mirror after why
    (record { fewer = fewer; left = c.in-Ok.ensures; fits = c.class_fits.ensures; meant = c.in-Ok-build_fewer.ensures.1; fed = fed }))
