use Rattle.ldm_session.proofs.CallerLemmas.{Heard-said}
use Rattle.ldm_session.proofs.HearingLemmas.{looks_at_long, looks_at_other, looks_at_reply, looks_on}
use Rattle.ldm_rpc.proofs.LookingLemmas.{shows_none, shows_some}
use Rattle.std.proofs.Common.{ℕ, List, sym, subst}
use Rattle.ldm_relay.specs.declared.message.SoonAnswer.{SoonAnswer}
use Rattle.ldm_session.specs.Owed.{IsReplyTo}
use Rattle.ldm_session.proofs.replies.Replies.read.Goals as goal

pub returns-in-Err-TooLong-clause-read : goal.returns-in-Err-TooLong-clause-read
returns-in-Err-TooLong-clause-read c = λ given codes heard.
    let long = rw c.in-Err-TooLong.field-0-is at c.in-Err-TooLong.ensures in
    looks_at_long given codes c.args.self.now c.push.new.self c.args.xid c.in-Err-TooLong.field-0-0 heard long.0 long.1

pub returns-in-Err-OutOfMemory-clause-read : goal.returns-in-Err-OutOfMemory-clause-read
returns-in-Err-OutOfMemory-clause-read c = λ given codes heard. Heard-said given codes c.args.self.now heard

pub returns-in_default-clause-read : goal.returns-in_default-clause-read
returns-in_default-clause-read c = λ given codes heard.
    looks_on given codes c.args.self.now c.push.new.self heard c.in-Ok.ensures (shows_none c.push.new.self.records c.in_default.ensures.content)

pub returns-in_default-reply_in-clause-read : goal.returns-in_default-reply_in-clause-read
returns-in_default-reply_in-clause-read c = λ given codes heard.
    let shown = shows_some c.push.new.self.records c.in-Some.content.now c.in-Some.ensures.content in
    let P : List ℕ → Type 0 = λ content. (answer : SoonAnswer) → ¬ (IsReplyTo c.args.xid answer content) in
    looks_at_other given codes c.args.self.now c.push.new.self c.args.xid heard c.in-Ok.ensures shown.0 (subst P (sym shown.1) c.in_default-reply_in.ensures)

pub returns-clause-read : goal.returns-clause-read
returns-clause-read c = λ given codes heard.
    let shown = shows_some c.push.new.self.records c.in-Some.content.now c.in-Some.ensures.content in
    let answer = c.in-Some-reply_in.answer in
    let P : List ℕ → Type 0 = λ content. IsReplyTo c.args.xid answer content in
    looks_at_reply given codes c.args.self.now c.push.new.self c.next.new.self c.args.xid answer heard c.in-Ok.ensures shown.0 (subst P (sym shown.1) c.in-Some-reply_in.ensures)
    c.next.ensures.after c.next.ensures.ready
