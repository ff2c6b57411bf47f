use Rattle.std.proofs.Common.{length, sym, ap, ◌∙◌, arith}
use Rattle.ldm_chain.specs.Ending.{end_pushed}
use Rattle.ldm_chain.specs.Reflecting.{mirror_of}
use Rattle.ldm_chain.proofs.Pushed.{end_pushed-answer}
use Rattle.ldm_chain.proofs.Mirroring.{none_of, of-same, same-then, room-left, sends, sent-more}
use Rattle.ldm_chain.proofs.mirror.MirrorLink.send.Goals as goal

pub invariant_of-self-2 : goal.invariant_of-self-2
invariant_of-self-2 g c =
    let i = c.self.invariant in
    let s = c.self.inside in
    let p = c.push-pushed in
    let live = sym i.over_is ∙ none_of s.over (sym c.is_some.ensures ∙ c.if-is_some.false) in
    let sent = sends g.B.Begun.begun (mirror_of s.told.passed s.faults s.closed s.read s.replies.items s.receiver s.pass.now) c.then-self-inside.result.passed s.faults s.closed
    c.forget_read-self-inside.result s.now c.args.piece.now c.forget_read-self-inside.new.replies.items c.clear.new.self.items p.new.out.items p.new.notes.items p.new.self p.new.pass
    (record { within = omega (arith, c.forget_read-self-inside.ensures.within, c.forget_read-self-inside.new.replies.ok.0); waits = c.forget_read-self-inside.ensures.rest; live = live })
    i.now_is c.then-self-inside.ensures p.ensures.pushes i.reflects in
    record {
      of = of-same s.shared.now s.pass.now p.new.pass i.of p.ensures.kept;
      same = same-then g.B.Begun.begun.first.pass s.pass.now p.new.pass i.same p.ensures.kept;
      name_is = i.name_is;
      now_is = i.now_is;
      sent_is = omega (arith, i.sent_is, sent-more c.args.piece.now s.told.passed c.then-self-inside.result.passed c.then-self-inside.ensures);
      room = room-left s.sent (length c.args.piece.now) (sym c.is_too_much.ensures ∙ c.if-is_too_much.false);
      within = sent.within;
      over_is = c.end_pushed-self-inside.ensures ∙ ap end_pushed p.ensures.answer ∙ end_pushed-answer p.new.self.end;
      reflects = sent.reflects;
    }
