use Rattle.std.proofs.Common.{◌≡◌, ◌/◌, ◌++◌, refl, arith}
use Rattle.ldm_pqact_match.specs.Substitution.{last_digits}
use Rattle.ldm_pqact_match.proofs.Digits.{no_digits, one_more_digit}
use Rattle.ldm_stats.proofs.hour.put_two.Goals as goal

pub returns-clause-text : goal.returns-clause-text
returns-clause-text c =
    let old = c.args.out.now.items in
    let first : c.push.new.self.items ≡ old ++ last_digits 1 (c.args.number / 10) =
    one_more_digit old old c.push.new.self.items 1 (c.args.number / 10) (omega arith) (no_digits old 0 (c.args.number / 10 / 10) refl) c.push.ensures.items in
    one_more_digit old c.push.new.self.items c.push-2.new.self.items 2 c.args.number (omega arith) first c.push-2.ensures.items
