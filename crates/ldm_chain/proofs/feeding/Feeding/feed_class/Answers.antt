use Rattle.std.proofs.Common.{◌∙◌, Option, sym, subst}
use Rattle.ldm_sender.specs.declared.end.SendEnd.{SendEnd}
use Rattle.ldm_chain.specs.declared.node.Break.{Break}
use Rattle.ldm_chain.specs.Breaking.{Came}
use Rattle.ldm_chain.specs.Linking.{Fed, asked_by}
use Rattle.ldm_chain.proofs.Broken.{first-came, rest-came}
use Rattle.ldm_chain.proofs.Mirroring.{none_of}
use Rattle.ldm_chain.proofs.feeding.Feeding.feed_class.Goals as goal

pub returns-in_default : goal.returns-in_default
returns-in_default g c =
    let feeding = c.args.self.now in
    let asked = asked_by feeding.host.now feeding.policy.now 1 feeding.class.now feeding.max_hereis in
    record {
      kept = c.feed_over-end.ensures.kept;
      fed = subst (λ (r : Option Break). Came r g.B.Begun.begun asked c.args.pass.now c.feed_over-end.new.pass c.args.mirror.now c.feed_over-end.new.mirror)
          (sym c.ended.ensures)
          (first-came asked c.args.pass.now c.feed_over-end.new.pass c.args.mirror.now c.feed_over-end.new.mirror c.feed_over-end.result g.B.Begun.begun
          c.feed_over-end.ensures.fed (λ is. absurd (c.in_default.not-Reclassed is)));
    }

pub returns-clause-fed : goal.returns-clause-fed
returns-clause-fed g c =
    let feeding = c.args.self.now in
    let asked = asked_by feeding.host.now feeding.policy.now 1 feeding.class.now feeding.max_hereis in
    let first = subst (λ (e : SendEnd). Fed e asked c.args.pass.now c.feed_over-end.new.pass c.args.mirror.now c.feed_over-end.new.mirror) c.in-Reclassed.is
    c.feed_over-end.ensures.fed in
    let live = none_of c.feed_over-end.new.mirror.receiver.end (sym c.is_over.ensures.over ∙ c.if-is_over.false) in
    rest-came g.B.Begun.begun asked c.args.pass.now c.feed_over-end.new.pass c.feed_fewer.new.pass c.args.mirror.now c.feed_over-end.new.mirror c.feed_fewer.new.mirror
    first live c.is_over.ensures.reflects c.feed_fewer.result c.feed_fewer.ensures.fed
