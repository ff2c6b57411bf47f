use Rattle.std.proofs.Common.{sym}
use Rattle.ldm_pqact_match.proofs.Pieces.{byte_in_front, form_in_front}
use Rattle.ldm_pqact_match.proofs.forms.front.Goals as goal

pub returns-in-Some : goal.returns-in-Some
returns-in-Some c =
    let found = c.in-Some.ensures in
    form_in_front c.args.text.now c.in-Some.form c.in-len1-up.len_at_least (sym found.form) found.takes found.inside

pub returns-in-None : goal.returns-in-None
returns-in-None c = byte_in_front c.args.text.now c.in-len1-up.len_at_least (sym c.in-None.ensures.form)
