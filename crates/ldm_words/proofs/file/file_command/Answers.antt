use Rattle.std.proofs.Common.{rules}
use Rattle.std.proofs.lemmas.Result.{IfOk-weaker}
use Rattle.ldm_words.proofs.Parsing.{adds}
use Rattle.ldm_words.specs.Commands.{file_command, file_rule}
use Rattle.ldm_words.specs.Views.{HasRule}
use Rattle.ldm_words.proofs.file.file_command.Goals as goal

pub returns : goal.returns
unfolding file_command
returns c =
    let file : HasRule file_rule c.word.result = search rules in
    IfOk-weaker c.arg.result _ _ (λ command added. adds _ command _ _ _ added c.bare.ensures file) c.arg.ensures
