use Rattle.std.proofs.Common.{◌≡◌, false, Bool, codes, cond, [], Some, sym, ap, ◌∙◌}
use Rattle.std.specs.Prelude.{bytes_eq}
use Rattle.ldm_answers.specs.Texts.{if_text, unspelled}
use Rattle.ldm_answers.proofs.Unspelling.{if_text-unread}
use Rattle.ldm_answers.proofs.texts.decoded.Goals as goal

pub returns-in_err-text-clause-value : goal.returns-in_err-text-clause-value
returns-in_err-text-clause-value c =
    let other : bytes_eq c.args.field.now (codes "-") ≡ false = cc in
    let meant = unspelled c.args.field.now in
    let unread = if_text-unread c.args.most c.args.field.now meant c.in_err-text.ensures in
    rw c.from_residual.ensures (sym (ap (λ (b : Bool). cond b (Some []) (if_text c.args.most c.args.field.now meant)) other ∙ unread))
