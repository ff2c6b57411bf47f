use Rattle.std.proofs.Common.{◌≡◌, length}
use Rattle.ldm_text.specs.declared.words.Comments.TheVariants.{Hash}
use Rattle.ldm_text.specs.Words.{BeginsInWord, words_of}
use Rattle.ldm_text.proofs.CallerLemmas.{with_words}
use Rattle.ldm_conf.specs.Kept.{lent}
use Rattle.ldm_conf.proofs.words.read_words.Given as goal

abbrev pub invariant-loop-rest : goal.invariant-loop-rest
invariant-loop-rest l = (with_words (lent l.words.items) (words_of Hash l.rest) ≡ words_of Hash l.text) × BeginsInWord Hash l.rest

abbrev pub decreases-loop-rest : goal.decreases-loop-rest
decreases-loop-rest l = length l.rest
