use Rattle.std.proofs.Common.{drop, take, sym, ◌∙◌, arith, length-drop}
use Rattle.std.proofs.lemmas.List.{take_rest}
use Rattle.ldm_chain.proofs.Mirroring.{reads-front, sent-kept}
use Rattle.ldm_chain.proofs.mirror.MirrorLink.recv.Goals as goal

pub invariant_of-self-2 : goal.invariant_of-self-2
invariant_of-self-2 g c =
    let i = c.self.invariant in
    let s = c.self.inside in
    let told = rw (take_rest, c.deref.ensures.value) at c.then-self-inside.ensures in
    let count = rw (take_rest, c.deref.ensures.value) at c.copy_front-n.ensures.count in
    record {
      of = i.of;
      same = i.same;
      name_is = i.name_is;
      now_is = i.now_is;
      sent_is = i.sent_is ∙ sym (sent-kept (take c.copy_front-n.result (drop s.read s.replies.items)) s.told.passed c.then-self-inside.result.passed told);
      room = i.room;
      within = omega (arith, count, i.within, length-drop s.read s.replies.items);
      over_is = i.over_is;
      reflects = reads-front g.B.Begun.begun s.told.passed s.faults s.closed s.read s.replies.items s.receiver s.pass.now c.then-self-inside.result.passed
          c.copy_front-n.result told i.reflects;
    }
