use Rattle.std.proofs.Common.{List, length, sym, ap, arith}
use Rattle.ldm_outside.specs.declared.link.Passed.{Passed}
use Rattle.ldm_outside.specs.Link.{bytes_sent}
use Rattle.ldm_downstream.specs.ReceiverView.{ReceiverView}
use Rattle.ldm_chain.proofs.Mirroring.{begins, same-begun}
use Rattle.ldm_chain.proofs.mirror.Mirror.over.Goals as goal

pub invariant_of-result : goal.invariant_of-result
invariant_of-result g c = record {
  of = c.requires.of;
  same = same-begun g.B.Begun.begun c.args.receiver.receiving c.args.lent.pass.now c.requires.first;
  name_is = sym c.requires.name;
  now_is = sym c.requires.moment;
  sent_is = sym (ap (λ (ps : List Passed). length (bytes_sent ps)) c.new-2.ensures);
  room = omega arith;
  within = omega arith;
  over_is = sym (ap (λ (r : ReceiverView). r.end) c.requires.before);
  reflects = begins g.B.Begun.begun c.args.receiver c.args.lent.pass.now c.new-2.result.passed c.args.request.items c.requires.before c.requires.asks c.requires.first
      c.new-2.ensures;
}
