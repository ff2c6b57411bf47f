use Rattle.std.proofs.Common.{◌<◌, arith}
use Rattle.ldm_pqact_match.proofs.Digits.{no_digits, one_more_digit}
use Rattle.ldm_watch.proofs.dates.+put_digits.Goals as goal

pub returns-then-count-eq0-clause-text : goal.returns-then-count-eq0-clause-text
returns-then-count-eq0-clause-text t c = no_digits c.args.text.now.items c.args.count c.args.number c.if-count-eq0.true

pub returns-clause-text : goal.returns-clause-text
returns-clause-text t c =
    let some : 0 < c.args.count = (let not = c.if-count-eq0.false in grind arith) in
    one_more_digit c.args.text.now.items c.put_digits.new.text.items c.push.new.self.items c.args.count c.args.number some c.put_digits.ensures.text
    c.push.ensures.items
