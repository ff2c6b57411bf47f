use Rattle.std.proofs.Common.{◌<◌, arith}
use Rattle.std.proofs.lemmas.Result.{IfOk-weaker}
use Rattle.ldm_pqact_match.proofs.Digits.{no_digits, one_more_digit}
use Rattle.ldm_pqact_match.proofs.text.Text.+push_digits.Goals as goal

pub returns-then-count-eq0 : goal.returns-then-count-eq0
returns-then-count-eq0 t c = no_digits c.args.self.now c.args.count c.args.number c.if-count-eq0.true

pub returns : goal.returns
returns t c =
    let some : 0 < c.args.count = (let not = c.if-count-eq0.false in grind arith) in
    IfOk-weaker c.push.result _ _
    (λ _ e. one_more_digit c.args.self.now c.push_digits.new.self c.push.new.self c.args.count c.args.number some c.in_ok-push_digits.ensures e)
    c.push.ensures
