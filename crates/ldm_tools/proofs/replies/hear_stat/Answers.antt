use Rattle.std.proofs.Common.{ℕ, List, subst}
use Rattle.std.specs.Prelude.{Option}
use Rattle.ldm_model.specs.declared.stat.Stat.{Stat}
use Rattle.ldm_tools.specs.Replies.{IsStatReply}
use Rattle.ldm_tools.proofs.Replied.{no_reply_heard, other_heard}
use Rattle.ldm_tools.proofs.replies.hear_stat.Goals as goal

pub returns-in-None-clause-heard : goal.returns-in-None-clause-heard
returns-in-None-clause-heard g c =
    let tells = g.K.Link.tells in
    let P : List ℕ → Type 0 = λ content. (stat : Option Stat) → ¬ (IsStatReply c.args.xid stat content) in
    other_heard (IsStatReply c.args.xid) c.args.reader.now c.hear.new.self (tells c.args.link.now) (tells c.hear.new.link) c.place.result c.place.ensures
    (subst P c.content.ensures c.in-None.ensures) c.in-Ok.ensures.heard

pub returns-in-Err-clause-heard : goal.returns-in-Err-clause-heard
returns-in-Err-clause-heard g c =
    let tells = g.K.Link.tells in
    no_reply_heard (IsStatReply c.args.xid) c.args.reader.now c.hear.new.self (tells c.args.link.now) (tells c.hear.new.link) c.in-Err.why c.no_reply.result c.no_reply.ensures
    c.in-Err.ensures.heard
