use Rattle.std.proofs.Common.{codes, rules}
use Rattle.std.proofs.lemmas.Result.{IfOk-weaker}
use Rattle.ldm_words.proofs.Parsing.{adds}
use Rattle.ldm_words.specs.Commands.{feed_rule, flag_rule, origin_rule, peer_rule, wmo_command}
use Rattle.ldm_words.specs.Views.{HasRule}
use Rattle.ldm_words.proofs.wmo.wmo_command.Goals as goal

pub returns : goal.returns
unfolding wmo_command
returns c =
    let feed : HasRule (feed_rule (codes "IDS")) c.option_or.result = search rules in
    let origin : HasRule origin_rule c.option_or-2.result = search rules in
    let socket : HasRule (flag_rule (codes "socket") (codes "s")) c.flag.result = search rules in
    let peer : HasRule peer_rule c.option_or-3.result = search rules in
    let one = adds _ _ _ _ _ c.in_ok-arg.ensures c.bare.ensures feed in
    let two = adds _ _ _ _ _ c.in_ok-arg-2.ensures one origin in
    let three = adds _ _ _ _ _ c.in_ok-arg-3.ensures two socket in
    IfOk-weaker c.arg-4.result _ _ (λ command added. adds _ command _ _ _ added three peer) c.arg-4.ensures
