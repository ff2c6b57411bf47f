use Rattle.std.proofs.Common.{◌∙◌, [], refl}
use Rattle.ldm_shared.proofs.Made.{calls_none}
use Rattle.ldm_sender.specs.Asked.{asked_of}
use Rattle.ldm_sender.specs.Opening.{Denied, Reclassed}
use Rattle.ldm_sender.proofs.Unturned.{denied, reclassed, answer_breaks}
use Rattle.ldm_upstream.proofs.Fed.{unfed}
use Rattle.ldm_upstream.proofs.feeding.decline_whole.Goals as goal

pub returns-in-Ok-clause-fed : goal.returns-in-Ok-clause-fed
returns-in-Ok-clause-fed g c = λ host ahead rules pass log gate is.
    let asked = asked_of host rules c.args.ask.now in
    unfed _ asked ahead _ _ _ _
    (reclassed asked c.in-Fewer.fewer pass _ _ _ _ _ _ c.requires.not_closed (is ∙ c.in-Fewer.is)
    (c.in-Ok.ensures.declines pass))

pub returns-in-Err-clause-fed : goal.returns-in-Err-clause-fed
returns-in-Err-clause-fed g c = λ host ahead rules pass log gate is.
    let asked = asked_of host rules c.args.ask.now in
    unfed _ asked ahead _ _ _ _
    (answer_breaks c.in-Err.end asked (Reclassed c.in-Fewer.fewer) pass pass _ _ _ _ _ _ c.requires.not_closed (is
    ∙ c.in-Fewer.is) (λ actor. refl) (calls_none pass)
    (c.in-Err.ensures.declines pass))

pub returns-in-Ok-decline-clause-fed : goal.returns-in-Ok-decline-clause-fed
returns-in-Ok-decline-clause-fed g c = λ host ahead rules pass log gate is.
    let asked = asked_of host rules c.args.ask.now in
    unfed _ asked ahead _ _ _ _
    (denied asked c.in-Nothing.rule pass _ _ _ _ _ _ c.requires.not_closed (is ∙ c.in-Nothing.is)
    (c.in-Ok-decline.ensures.declines pass))

pub returns-in-Err-decline-clause-fed : goal.returns-in-Err-decline-clause-fed
returns-in-Err-decline-clause-fed g c = λ host ahead rules pass log gate is.
    let asked = asked_of host rules c.args.ask.now in
    unfed _ asked ahead _ _ _ _
    (answer_breaks c.in-Err-decline.end asked (Denied c.in-Nothing.rule) pass pass _ _ _ _ _ _ c.requires.not_closed (is
    ∙ c.in-Nothing.is) (λ actor. refl) (calls_none pass)
    (c.in-Err-decline.ensures.declines pass))

pub returns-in-Ok-clause-decided : goal.returns-in-Ok-clause-decided
returns-in-Ok-clause-decided g c = λ host rules pass is. record {
  answered = Reclassed c.in-Fewer.fewer;
  is = is
      ∙ c.in-Fewer.is;
  behind = [];
  made = calls_none pass;
}

pub returns-in-Err-clause-decided : goal.returns-in-Err-clause-decided
returns-in-Err-clause-decided g c = λ host rules pass is. record {
  answered = Reclassed c.in-Fewer.fewer;
  is = is
      ∙ c.in-Fewer.is;
  behind = [];
  made = calls_none pass;
}

pub returns-in-Ok-decline-clause-decided : goal.returns-in-Ok-decline-clause-decided
returns-in-Ok-decline-clause-decided g c = λ host rules pass is. record {
  answered = Denied c.in-Nothing.rule;
  is = is
      ∙ c.in-Nothing.is;
  behind = [];
  made = calls_none pass;
}

pub returns-in-Err-decline-clause-decided : goal.returns-in-Err-decline-clause-decided
returns-in-Err-decline-clause-decided g c = λ host rules pass is. record {
  answered = Denied c.in-Nothing.rule;
  is = is
      ∙ c.in-Nothing.is;
  behind = [];
  made = calls_none pass;
}
