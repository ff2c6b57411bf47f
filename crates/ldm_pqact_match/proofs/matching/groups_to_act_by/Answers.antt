use Rattle.ldm_pqact_match.proofs.ElseEntries.{else_acts, else_waits}
use Rattle.ldm_pqact_match.proofs.matching.groups_to_act_by.Goals as goal

pub returns-in-None-clause-acts : goal.returns-in-None-clause-acts
returns-in-None-clause-acts c =
    let meets = rw (c.feed.ensures, c.feed-2.ensures) at c.if-not-meets.ensures.value in
    else_waits c.args.matched c.args.info.now c.args.entry.now c.in-None.ensures c.if-matched.true meets

pub returns-in-None-2-clause-acts : goal.returns-in-None-2-clause-acts
returns-in-None-2-clause-acts c =
    let meets = rw (c.feed.ensures, c.feed-2.ensures) at c.if-not-meets.ensures.value in
    else_acts c.args.matched c.args.info.now c.args.entry.now c.in-None.ensures c.if-matched.false meets
