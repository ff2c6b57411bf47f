use Rattle.std.proofs.Common.{◌∙◌, sym, refl}
use Rattle.ldm_pqact_match.specs.Forms.{form_at}
use Rattle.ldm_pqact_match.proofs.Found.{mark_inside}
use Rattle.ldm_pqact_match.proofs.forms.form_at.Goals as goal

pub returns-in-Some-clause-form : goal.returns-in-Some-clause-form
unfolding form_at
returns-in-Some-clause-form c = rw (sym c.at.ensures ∙ c.in-Some.is, c.spelling.ensures) refl

pub returns-in-Some-clause-inside : goal.returns-in-Some-clause-inside
returns-in-Some-clause-inside c = rw c.spelling.ensures (mark_inside c.args.text.now c.in-Some.mark (sym c.at.ensures ∙ c.in-Some.is))

pub returns-in-Some-group_at-clause-form : goal.returns-in-Some-group_at-clause-form
unfolding form_at
returns-in-Some-group_at-clause-form c =
    rw (sym c.at.ensures ∙ c.in_default.is, sym c.group_at.ensures.group ∙ c.in-Some-group_at.is) refl

pub returns-clause-form : goal.returns-clause-form
unfolding form_at
returns-clause-form c =
    rw (sym c.at.ensures ∙ c.in_default.is, sym c.group_at.ensures.group ∙ c.in_default-group_at.is) c.date_form_at.ensures.form
