use Rattle.std.proofs.Common.{codes, rules}
use Rattle.std.proofs.lemmas.Result.{IfOk-weaker}
use Rattle.ldm_words.proofs.Parsing.{adds}
use Rattle.ldm_words.specs.Commands.{arena_rule, conf_rule, flag_rule, node_command, option_or_rule, option_rule, slots_rule}
use Rattle.ldm_words.specs.Views.{HasRule}
use Rattle.ldm_words.proofs.node.node_command.Goals as goal

pub returns : goal.returns
unfolding node_command
returns c =
    let arena : HasRule arena_rule c.option_or.result = search rules in
    let slots : HasRule slots_rule c.option_or-2.result = search rules in
    let port : HasRule (option_or_rule (codes "port") (codes "p") (codes "388")) c.option_or-3.result = search rules in
    let workers : HasRule (option_or_rule (codes "workers") (codes "w") (codes "4")) c.option_or-4.result = search rules in
    let sessions : HasRule (option_or_rule (codes "sessions") (codes "n") (codes "4294967295")) c.option_or-5.result = search rules in
    let idles : HasRule (option_rule (codes "idles") (codes "x")) c.option.result = search rules in
    let journal : HasRule (option_rule (codes "journal") (codes "q")) c.option-2.result = search rules in
    let input : HasRule (flag_rule (codes "input") (codes "e")) c.flag.result = search rules in
    let conf : HasRule conf_rule c.word.result = search rules in
    let one = adds _ _ _ _ _ c.in_ok-arg.ensures c.bare.ensures arena in
    let two = adds _ _ _ _ _ c.in_ok-arg-2.ensures one slots in
    let three = adds _ _ _ _ _ c.in_ok-arg-3.ensures two port in
    let four = adds _ _ _ _ _ c.in_ok-arg-4.ensures three workers in
    let five = adds _ _ _ _ _ c.in_ok-arg-5.ensures four sessions in
    let six = adds _ _ _ _ _ c.in_ok-arg-6.ensures five idles in
    let seven = adds _ _ _ _ _ c.in_ok-arg-7.ensures six journal in
    let eight = adds _ _ _ _ _ c.in_ok-arg-8.ensures seven input in
    IfOk-weaker c.arg-9.result _ _ (λ command added. adds _ command _ _ _ added eight conf) c.arg-9.ensures
