use Rattle.std.proofs.Common.{codes, rules}
use Rattle.std.proofs.lemmas.Result.{IfOk-weaker}
use Rattle.ldm_words.proofs.Parsing.{adds}
use Rattle.ldm_words.specs.Commands.{arena_rule, conf_rule, count_rule, feed_rule, option_rule, pattern_rule, pqact_command, slots_rule, word_rule}
use Rattle.ldm_words.specs.Views.{HasRule}
use Rattle.ldm_words.proofs.act.pqact_command.Goals as goal

pub returns : goal.returns
unfolding pqact_command
returns c =
    let feed : HasRule (feed_rule (codes "ANY")) c.option_or.result = search rules in
    let pattern : HasRule pattern_rule c.option_or-2.result = search rules in
    let count : HasRule count_rule c.option.result = search rules in
    let arena : HasRule arena_rule c.option_or-3.result = search rules in
    let slots : HasRule slots_rule c.option_or-4.result = search rules in
    let state : HasRule (option_rule (codes "state") (codes "s")) c.option-2.result = search rules in
    let conf : HasRule conf_rule c.word.result = search rules in
    let peer : HasRule (word_rule (codes "peer")) c.word-2.result = search rules in
    let one = adds _ _ _ _ _ c.in_ok-arg.ensures c.bare.ensures feed in
    let two = adds _ _ _ _ _ c.in_ok-arg-2.ensures one pattern in
    let three = adds _ _ _ _ _ c.in_ok-arg-3.ensures two count in
    let four = adds _ _ _ _ _ c.in_ok-arg-4.ensures three arena in
    let five = adds _ _ _ _ _ c.in_ok-arg-5.ensures four slots in
    let six = adds _ _ _ _ _ c.in_ok-arg-6.ensures five state in
    let seven = adds _ _ _ _ _ c.in_ok-arg-7.ensures six conf in
    IfOk-weaker c.arg-8.result _ _ (λ command added. adds _ command _ _ _ added seven peer) c.arg-8.ensures
