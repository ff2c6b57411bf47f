use Rattle.std.proofs.Common.{codes, rules}
use Rattle.std.proofs.lemmas.Result.{IfOk-weaker}
use Rattle.ldm_words.proofs.Parsing.{adds}
use Rattle.ldm_words.specs.Commands.{count_rule, feed_rule, flag_rule, notifyme_command, pattern_rule, peer_rule}
use Rattle.ldm_words.specs.Views.{HasRule}
use Rattle.ldm_words.proofs.notices.notifyme_command.Goals as goal

pub returns : goal.returns
unfolding notifyme_command
returns c =
    let feed : HasRule (feed_rule (codes "ANY")) c.option_or.result = search rules in
    let pattern : HasRule pattern_rule c.option_or-2.result = search rules in
    let count : HasRule count_rule c.option.result = search rules in
    let text : HasRule (flag_rule (codes "text") (codes "t")) c.flag.result = search rules in
    let peer : HasRule peer_rule c.option_or-3.result = search rules in
    let one = adds _ _ _ _ _ c.in_ok-arg.ensures c.bare.ensures feed in
    let two = adds _ _ _ _ _ c.in_ok-arg-2.ensures one pattern in
    let three = adds _ _ _ _ _ c.in_ok-arg-3.ensures two count in
    let four = adds _ _ _ _ _ c.in_ok-arg-4.ensures three text in
    IfOk-weaker c.arg-5.result _ _ (λ command added. adds _ command _ _ _ added four peer) c.arg-5.ensures
