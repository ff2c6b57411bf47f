use Rattle.std.proofs.Common.{◌∙◌, ap, sym}
use Rattle.ldm_text.proofs.CallerLemmas.{no_word}
use Rattle.ldm_text.specs.Words.{Words}
use Rattle.ldm_text.specs.declared.words.Comments.TheVariants.{Hash}
use Rattle.ldm_check.proofs.said.take_word.Goals as goal

pub returns-then-is_empty : goal.returns-then-is_empty
returns-then-is_empty c =
    ap (λ (read : Words). read.words) (sym c.to_word-rest.ensures.words ∙ no_word Hash c.to_word-rest.result.now (sym c.is_empty.ensures ∙ c.if-is_empty.true))
