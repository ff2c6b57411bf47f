use Rattle.std.proofs.Common.{codes, rules}
use Rattle.std.proofs.lemmas.Result.{IfOk-weaker}
use Rattle.ldm_words.proofs.Parsing.{adds}
use Rattle.ldm_words.specs.Checking.{check_command, options_rule, some_words_rule}
use Rattle.ldm_words.specs.Views.{HasRule}
use Rattle.ldm_words.proofs.check.check_command.Goals as goal

pub returns : goal.returns
unfolding check_command
returns c =
    let pqacts : HasRule (options_rule (codes "pqacts") (codes "p")) c.options.result = search rules in
    let confs : HasRule (some_words_rule (codes "confs")) c.some_words.result = search rules in
    let one = adds _ _ _ _ _ c.in_ok-arg.ensures c.bare.ensures pqacts in
    IfOk-weaker c.arg-2.result _ _ (λ command added. adds _ command _ _ _ added one confs) c.arg-2.ensures
