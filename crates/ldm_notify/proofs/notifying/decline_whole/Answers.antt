use Rattle.std.proofs.Common.{◌∙◌, refl}
use Rattle.ldm_shared.proofs.Made.{calls_none}
use Rattle.ldm_notify.specs.Notifying.{asked_of}
use Rattle.ldm_sender.specs.Opening.{Denied, Reclassed}
use Rattle.ldm_sender.proofs.Unturned.{denied, reclassed, answer_breaks}
use Rattle.ldm_notify.proofs.Closing.{unnoted}
use Rattle.ldm_notify.proofs.notifying.decline_whole.Goals as goal

pub returns-in-Ok : goal.returns-in-Ok
returns-in-Ok g c = λ host rules pass log gate is.
    let asked = asked_of host rules c.args.ask.now in
    unnoted _ asked _ _ _ _
    (reclassed asked c.in-Fewer.fewer pass _ _ _ _ _ _ c.requires.not_closed (is ∙ c.in-Fewer.is)
    (c.in-Ok.ensures.declines pass))

pub returns-in-Err : goal.returns-in-Err
returns-in-Err g c = λ host rules pass log gate is.
    let asked = asked_of host rules c.args.ask.now in
    unnoted _ asked _ _ _ _
    (answer_breaks c.in-Err.end asked (Reclassed c.in-Fewer.fewer) pass pass _ _ _ _ _ _ c.requires.not_closed (is
    ∙ c.in-Fewer.is) (λ actor. refl) (calls_none pass)
    (c.in-Err.ensures.declines pass))

pub returns-in-Ok-decline : goal.returns-in-Ok-decline
returns-in-Ok-decline g c = λ host rules pass log gate is.
    let asked = asked_of host rules c.args.ask.now in
    unnoted _ asked _ _ _ _
    (denied asked c.in-Nothing.rule pass _ _ _ _ _ _ c.requires.not_closed (is ∙ c.in-Nothing.is)
    (c.in-Ok-decline.ensures.declines pass))

pub returns-in-Err-decline : goal.returns-in-Err-decline
returns-in-Err-decline g c = λ host rules pass log gate is.
    let asked = asked_of host rules c.args.ask.now in
    unnoted _ asked _ _ _ _
    (answer_breaks c.in-Err-decline.end asked (Denied c.in-Nothing.rule) pass pass _ _ _ _ _ _ c.requires.not_closed (is
    ∙ c.in-Nothing.is) (λ actor. refl) (calls_none pass)
    (c.in-Err-decline.ensures.declines pass))
