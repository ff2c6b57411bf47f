use Rattle.std.proofs.Common.{inl}
use Rattle.ldm_pqact.proofs.Closing.{counts_opened}
use Rattle.ldm_pqact.proofs.Completing.{act_completes}
use Rattle.ldm_pqact.proofs.acting.act.Goals as goal

pub returns-in-Done-Opened-clause-counts : goal.returns-in-Done-Opened-clause-counts
returns-in-Done-Opened-clause-counts g c =
    let at = rw c.in-Done-Opened.field-0-is at c.in-Done-Opened.ensures in counts_opened _ _ _ _ (c.run.ensures.acts c.args.pass.now at.done)

pub returns-in-Done-Opened-clause-completes : goal.returns-in-Done-Opened-clause-completes
returns-in-Done-Opened-clause-completes g c =
    let at = rw c.in-Done-Opened.field-0-is at c.in-Done-Opened.ensures in
    act_completes c.run.result c.args.entries _ _ (inl (rw c.in-Ok.ensures.entries at (c.run.ensures.acts c.args.pass.now at.done)))
