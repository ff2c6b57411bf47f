use Rattle.std.proofs.Common.{refl}
use Rattle.std.specs.Fmt.{digits}
use Rattle.ldm_model.specs.Open.{open_cursor}
use Rattle.ldm_exercise.proofs.laws.openings_are_answered.Goals as goal

pub returns-clause-replies : goal.returns-clause-replies
unfolding open_cursor
returns-clause-replies c = λ number. refl

pub returns-clause-words : goal.returns-clause-words
unfolding digits
returns-clause-words c = refl

pub returns-clause-counts : goal.returns-clause-counts
unfolding open_cursor digits
returns-clause-counts c = λ number. refl
