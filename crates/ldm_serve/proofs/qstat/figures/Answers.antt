use Rattle.std.proofs.Common.{[], ◌∷◌, Some, refl}
use Rattle.ldm_model.specs.Answers.{stat_answer}
use Rattle.ldm_relay.specs.Sent as sent
use Rattle.ldm_serve.proofs.Giving.{figures_given}
use Rattle.ldm_serve.proofs.qstat.figures.Goals as goal

pub returns-in-Done : goal.returns-in-Done
returns-in-Done g c = λ clock. (
  refl,
  figures_given c.args.pass.now c.stat.new.pass clock c.args.xid (stat_answer c.in-Done.stat) (sent.QstatReply c.args.xid (Some c.in-Done.stat) ∷ [])
      c.args.out.now.items c.put_stat.new.out.items c.in-Done.ensures.done refl c.put_stat.ensures,
)
