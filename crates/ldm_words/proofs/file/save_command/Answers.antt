use Rattle.std.proofs.Common.{codes, rules}
use Rattle.std.proofs.lemmas.Result.{IfOk-weaker}
use Rattle.ldm_words.proofs.Parsing.{adds}
use Rattle.ldm_words.specs.Commands.{file_rule, save_command, word_rule}
use Rattle.ldm_words.specs.Views.{HasRule}
use Rattle.ldm_words.proofs.file.save_command.Goals as goal

pub returns : goal.returns
unfolding save_command
returns c =
    let file : HasRule file_rule c.word.result = search rules in
    let arena : HasRule (word_rule (codes "arena")) c.word-2.result = search rules in
    let slots : HasRule (word_rule (codes "slots")) c.word-3.result = search rules in
    let one = adds _ _ _ _ _ c.in_ok-arg.ensures c.bare.ensures file in
    let two = adds _ _ _ _ _ c.in_ok-arg-2.ensures one arena in
    IfOk-weaker c.arg-3.result _ _ (λ command added. adds _ command _ _ _ added two slots) c.arg-3.ensures
