use Rattle.std.proofs.Common.{◌≡◌, length}
use Rattle.ldm_pqact_match.specs.Forms.{pieces_of}
use Rattle.ldm_pqact_match.specs.Substitution.{pieces_text, word_text}
use Rattle.ldm_pqact_match.specs.Views.{meanings_of}
use Rattle.ldm_pqact_match.specs.Reading.{behind}
use Rattle.ldm_pqact_match.proofs.substitute.substitute.Given as goal

abbrev pub invariant-loop-form : goal.invariant-loop-form
invariant-loop-form l = behind l.text (pieces_text (meanings_of l.sources) (pieces_of l.rest)) ≡ word_text (meanings_of l.sources) l.word

abbrev pub decreases-loop-form : goal.decreases-loop-form
decreases-loop-form l = length l.rest
