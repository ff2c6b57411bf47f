use Rattle.std.proofs.Common.{◌≡◌, length}
use Rattle.ldm_text.specs.declared.words.Comments.TheVariants.{Never}
use Rattle.ldm_text.specs.Words.{BeginsInWord, words_of}
use Rattle.ldm_text.proofs.CallerLemmas.{with_words}
use Rattle.ldm_pqact_conf.proofs.words.read_words.Given as goal

abbrev pub invariant-loop-rest : goal.invariant-loop-rest
invariant-loop-rest l = (with_words l.words.items (words_of Never l.rest) ≡ words_of Never l.text) × BeginsInWord Never l.rest

abbrev pub decreases-loop-rest : goal.decreases-loop-rest
decreases-loop-rest l = length l.rest
