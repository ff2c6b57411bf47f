-- Each example computes.
use Rattle.std.proofs.Common.{refl}
use Rattle.ldm_model.specs.Insert.{insert}
use Rattle.ldm_model.specs.Open.{open_cursor}
use Rattle.ldm_model.specs.Step.{step}
use Rattle.ldm_model.specs.Read.{read}
use Rattle.ldm_model.specs.Release.{release, close}
use Rattle.ldm_model.specs.Look.{look}
use Rattle.ldm_model.specs.Expire.{expire}
use Rattle.ldm_model.specs.Tally.{tally}
use Rattle.ldm_model.proofs.examples.worked_examples_of_cursors.Goals as goal

pub returns-clause-gap_before_later : goal.returns-clause-gap_before_later
unfolding insert open_cursor step read release close look expire tally
returns-clause-gap_before_later c = refl

pub returns-clause-held_passed_over : goal.returns-clause-held_passed_over
unfolding insert open_cursor step read release close look expire tally
returns-clause-held_passed_over c = refl

pub returns-clause-loss_of_another_feed : goal.returns-clause-loss_of_another_feed
unfolding insert open_cursor step read release close look expire tally
returns-clause-loss_of_another_feed c = refl

pub returns-clause-locked_by_a_reader : goal.returns-clause-locked_by_a_reader
unfolding insert open_cursor step read release close look expire tally
returns-clause-locked_by_a_reader c = refl

pub returns-clause-from_the_oldest : goal.returns-clause-from_the_oldest
unfolding insert open_cursor step read release close look expire tally
returns-clause-from_the_oldest c = refl

pub returns-clause-from_the_end : goal.returns-clause-from_the_end
unfolding insert open_cursor step read release close look expire tally
returns-clause-from_the_end c = refl

pub returns-clause-after_a_time : goal.returns-clause-after_a_time
unfolding insert open_cursor step read release close look expire tally
returns-clause-after_a_time c = refl

pub returns-clause-after_the_last_time : goal.returns-clause-after_the_last_time
unfolding insert open_cursor step read release close look expire tally
returns-clause-after_the_last_time c = refl

pub returns-clause-behind_a_product : goal.returns-clause-behind_a_product
unfolding insert open_cursor step read release close look expire tally
returns-clause-behind_a_product c = refl

pub returns-clause-behind_no_product : goal.returns-clause-behind_no_product
unfolding insert open_cursor step read release close look expire tally
returns-clause-behind_no_product c = refl

pub returns-clause-closed_while_held : goal.returns-clause-closed_while_held
unfolding insert open_cursor step read release close look expire tally
returns-clause-closed_while_held c = refl

pub returns-clause-read_in_parts : goal.returns-clause-read_in_parts
unfolding insert open_cursor step read release close look expire tally
returns-clause-read_in_parts c = refl

pub returns-clause-gap_of_two : goal.returns-clause-gap_of_two
unfolding insert open_cursor step read release close look expire tally
returns-clause-gap_of_two c = refl

pub returns-clause-all_busy : goal.returns-clause-all_busy
unfolding insert open_cursor step read release close look expire tally
returns-clause-all_busy c = refl
