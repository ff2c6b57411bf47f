-- An answer that was gathered where nothing was.
use Rattle.std.proofs.Common.{◌≡◌, ℕ, List, [], subst}
use Rattle.std.specs.Prelude.{Err}
use Rattle.ldm_outside.specs.Clock.{ClockRecord}
use Rattle.ldm_outside.specs.Link.{LinkRecord}
use Rattle.ldm_relay.specs.declared.message.ClassAnswer.{ClassAnswer}
use Rattle.ldm_shared.specs.Passes.{PassView}
use Rattle.ldm_sender.specs.declared.end.SendEnd.{SendEnd}
use Rattle.ldm_sender.specs.Answering.{answer_deed, AnswersClass, Declines}
use Rattle.ldm_sender.specs.Deeds.{Deed}
use Rattle.ldm_sender.specs.Does.{moment_of, Does, Breaks}
use Rattle.ldm_sender.specs.Stopping.{StopsSending}

pub does_from_empty : (pass : PassView) (link link' : LinkRecord) (clock clock' : ClockRecord) (out out' : List ℕ)
    (deed : Deed) → out ≡ [] → out' ≡ []
    → Does [] (moment_of pass link clock out) (moment_of pass link' clock' out') deed
    → Does [] (moment_of pass link clock []) (moment_of pass link' clock' []) deed
does_from_empty pass link link' clock clock' out out' deed one two does =
    subst (λ (x : List ℕ). Does [] (moment_of pass link clock x) (moment_of pass link' clock' []) deed) one
    (subst (λ (x : List ℕ). Does [] (moment_of pass link clock out) (moment_of pass link' clock' x) deed) two does)

pub breaks_from_empty : (why : SendEnd) (xid : ℕ) (answer : ClassAnswer) (pass : PassView) (link link' : LinkRecord)
    (clock clock' : ClockRecord) (out out' : List ℕ) → out ≡ []
    → AnswersClass (Err why) xid answer (moment_of pass link clock out) (moment_of pass link' clock' out')
    → Declines (Err why) xid answer pass link clock link' clock'
breaks_from_empty why xid answer pass link link' clock clock' out out' one ended =
    let old = λ (x : List ℕ). moment_of pass link clock x in
    let new = moment_of pass link' clock' out' in (
      ended.0,
      out',
      subst (λ (x : List ℕ). Breaks [] (old x) new (answer_deed xid answer ended.0)) one ended.1,
      subst (λ (x : List ℕ). StopsSending why (old x) new) one ended.2,
    )
