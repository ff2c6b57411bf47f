use Rattle.std.proofs.Common.{codes, rules}
use Rattle.std.proofs.lemmas.Result.{IfOk-weaker}
use Rattle.ldm_words.proofs.Parsing.{adds}
use Rattle.ldm_words.specs.Commands.{option_rule, peer_rule, pqmon_command}
use Rattle.ldm_words.specs.Views.{HasRule}
use Rattle.ldm_words.proofs.mon.pqmon_command.Goals as goal

pub returns : goal.returns
unfolding pqmon_command
returns c =
    let every : HasRule (option_rule (codes "every") (codes "i")) c.option.result = search rules in
    let peer : HasRule peer_rule c.option_or.result = search rules in
    let one = adds _ _ _ _ _ c.in_ok-arg.ensures c.bare.ensures every in
    IfOk-weaker c.arg-2.result _ _ (λ command added. adds _ command _ _ _ added one peer) c.arg-2.ensures
