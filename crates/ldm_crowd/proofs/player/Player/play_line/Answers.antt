use Rattle.ldm_script.specs.OrderView.{asked_of, act_with}
use Rattle.ldm_script.specs.Resolve.{resolved, unresolved}
use Rattle.ldm_crowd.proofs.OneMore.{same-grows}
use Rattle.ldm_crowd.proofs.player.Player.play_line.Goals as goal

pub returns-clause-same : goal.returns-clause-same
returns-clause-same g c =
    let line = c.in-Ok.ensures.answered in
    let asked = asked_of (act_with c.args.info.now c.args.act.now) in
    same-grows (unresolved asked) (resolved c.args.self.now.last asked) line.reply c.args.pass.now c.answer_lent.new.queue line.call
