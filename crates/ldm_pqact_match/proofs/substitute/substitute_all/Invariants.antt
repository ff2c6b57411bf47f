use Rattle.std.proofs.Common.{◌≡◌, drop}
use Rattle.ldm_pqact_match.specs.Substitution.{words_text}
use Rattle.ldm_pqact_match.specs.Views.{meanings_of}
use Rattle.ldm_pqact_match.specs.Reading.{behind_words}
use Rattle.ldm_pqact_match.proofs.substitute.substitute_all.Given as goal

abbrev pub invariant-loop-word : goal.invariant-loop-word
invariant-loop-word l =
    behind_words l.texts.items (words_text (meanings_of l.sources) (drop l.word-index l.words)) ≡ words_text (meanings_of l.sources) l.words
