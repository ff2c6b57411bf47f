-- The queue computes.
use Rattle.std.proofs.Common.{refl}
use Rattle.ldm_model.specs.Insert.{insert}
use Rattle.ldm_model.specs.Open.{open_cursor}
use Rattle.ldm_model.specs.Step.{step}
use Rattle.ldm_model.specs.Read.{read}
use Rattle.ldm_model.specs.Release.{release}
use Rattle.ldm_between_ends.proofs.alone_examples.worked_examples_of_a_sole_reader.Goals as goal

pub returns-clause-answers : goal.returns-clause-answers
unfolding insert open_cursor step read release
returns-clause-answers c = refl

pub returns-clause-none_due : goal.returns-clause-none_due
unfolding insert
returns-clause-none_due c = refl
