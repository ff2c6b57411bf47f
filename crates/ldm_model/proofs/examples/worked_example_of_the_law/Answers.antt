-- Each example computes.
use Rattle.std.proofs.Common.{refl}
use Rattle.ldm_model.specs.Insert.{insert}
use Rattle.ldm_model.specs.Open.{open_cursor}
use Rattle.ldm_model.specs.Step.{step}
use Rattle.ldm_model.specs.Read.{read}
use Rattle.ldm_model.specs.Release.{release, close}
use Rattle.ldm_model.specs.Look.{look}
use Rattle.ldm_model.specs.Expire.{expire}
use Rattle.ldm_model.specs.Tally.{tally}
use Rattle.ldm_model.proofs.examples.worked_example_of_the_law.Goals as goal

pub returns-clause-due_first : goal.returns-clause-due_first
unfolding insert open_cursor step read release close look expire tally
returns-clause-due_first c = refl

pub returns-clause-given_first : goal.returns-clause-given_first
unfolding insert open_cursor step read release close look expire tally
returns-clause-given_first c = refl

pub returns-clause-lost_first : goal.returns-clause-lost_first
unfolding insert open_cursor step read release close look expire tally
returns-clause-lost_first c = refl

pub returns-clause-told_first : goal.returns-clause-told_first
unfolding insert open_cursor step read release close look expire tally
returns-clause-told_first c = refl

pub returns-clause-due_then : goal.returns-clause-due_then
unfolding insert open_cursor step read release close look expire tally
returns-clause-due_then c = refl

pub returns-clause-given_then : goal.returns-clause-given_then
unfolding insert open_cursor step read release close look expire tally
returns-clause-given_then c = refl

pub returns-clause-lost_then : goal.returns-clause-lost_then
unfolding insert open_cursor step read release close look expire tally
returns-clause-lost_then c = refl

pub returns-clause-told_then : goal.returns-clause-told_then
unfolding insert open_cursor step read release close look expire tally
returns-clause-told_then c = refl

pub returns-clause-held_then : goal.returns-clause-held_then
unfolding insert open_cursor step read release close look expire tally
returns-clause-held_then c = refl

pub returns-clause-given_last : goal.returns-clause-given_last
unfolding insert open_cursor step read release close look expire tally
returns-clause-given_last c = refl

pub returns-clause-lost_last : goal.returns-clause-lost_last
unfolding insert open_cursor step read release close look expire tally
returns-clause-lost_last c = refl

pub returns-clause-told_last : goal.returns-clause-told_last
unfolding insert open_cursor step read release close look expire tally
returns-clause-told_last c = refl

pub returns-clause-left_last : goal.returns-clause-left_last
unfolding insert open_cursor step read release close look expire tally
returns-clause-left_last c = refl
