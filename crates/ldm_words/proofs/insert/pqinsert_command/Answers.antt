use Rattle.std.proofs.Common.{codes, rules}
use Rattle.std.proofs.lemmas.Result.{IfOk-weaker}
use Rattle.ldm_words.proofs.Parsing.{adds}
use Rattle.ldm_words.specs.Commands.{feed_rule, flag_rule, option_or_rule, option_rule, peer_rule, pqinsert_command, words_rule}
use Rattle.ldm_words.specs.Views.{HasRule}
use Rattle.ldm_words.proofs.insert.pqinsert_command.Goals as goal

pub returns : goal.returns
unfolding pqinsert_command
returns c =
    let feed : HasRule (feed_rule (codes "EXP")) c.option_or.result = search rules in
    let ident : HasRule (option_rule (codes "ident") (codes "p")) c.option.result = search rules in
    let origin : HasRule (option_or_rule (codes "origin") (codes "o") (codes "localhost")) c.option_or-2.result = search rules in
    let sign : HasRule (flag_rule (codes "sign") (codes "i")) c.flag.result = search rules in
    let peer : HasRule peer_rule c.option_or-3.result = search rules in
    let files : HasRule (words_rule (codes "files")) c.words.result = search rules in
    let one = adds _ _ _ _ _ c.in_ok-arg.ensures c.bare.ensures feed in
    let two = adds _ _ _ _ _ c.in_ok-arg-2.ensures one ident in
    let three = adds _ _ _ _ _ c.in_ok-arg-3.ensures two origin in
    let four = adds _ _ _ _ _ c.in_ok-arg-4.ensures three sign in
    let five = adds _ _ _ _ _ c.in_ok-arg-5.ensures four peer in
    IfOk-weaker c.arg-6.result _ _ (λ command added. adds _ command _ _ _ added five files) c.arg-6.ensures
