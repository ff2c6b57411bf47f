-- Each example computes.
use Rattle.std.proofs.Common.{refl}
use Rattle.ldm_model.specs.Insert.{insert}
use Rattle.ldm_model.specs.Look.{look}
use Rattle.ldm_model.specs.Expire.{expire}
use Rattle.ldm_model.specs.Stat.{stat}
use Rattle.ldm_model.proofs.examples.worked_examples.Goals as goal

pub returns-clause-too_big : goal.returns-clause-too_big
unfolding insert look
returns-clause-too_big c = refl

pub returns-clause-just_fits : goal.returns-clause-just_fits
unfolding insert look
returns-clause-just_fits c = refl

pub returns-clause-equal_and_falling_now : goal.returns-clause-equal_and_falling_now
unfolding insert look
returns-clause-equal_and_falling_now c = refl

pub returns-clause-duplicate : goal.returns-clause-duplicate
unfolding insert look
returns-clause-duplicate c = refl

pub returns-clause-no_duplicate_of_an_evicted_one : goal.returns-clause-no_duplicate_of_an_evicted_one
unfolding insert look
returns-clause-no_duplicate_of_an_evicted_one c = refl

pub returns-clause-last_instant : goal.returns-clause-last_instant
unfolding insert look
returns-clause-last_instant c = refl

pub returns-clause-found_and_absent : goal.returns-clause-found_and_absent
unfolding insert look
returns-clause-found_and_absent c = refl

pub returns-clause-evicts_the_oldest : goal.returns-clause-evicts_the_oldest
unfolding insert look
returns-clause-evicts_the_oldest c = refl

pub returns-clause-evicts_for_a_slot : goal.returns-clause-evicts_for_a_slot
unfolding insert look
returns-clause-evicts_for_a_slot c = refl

pub returns-clause-gaps_between : goal.returns-clause-gaps_between
unfolding insert look
returns-clause-gaps_between c = refl

pub returns-clause-best_fit : goal.returns-clause-best_fit
unfolding insert look
returns-clause-best_fit c = refl

pub returns-clause-longer_fit : goal.returns-clause-longer_fit
unfolding insert look
returns-clause-longer_fit c = refl

pub returns-clause-not_the_first_fit : goal.returns-clause-not_the_first_fit
unfolding insert look
returns-clause-not_the_first_fit c = refl

pub returns-clause-merged : goal.returns-clause-merged
unfolding insert look
returns-clause-merged c = refl

pub returns-clause-lowest_on_a_tie : goal.returns-clause-lowest_on_a_tie
unfolding insert look
returns-clause-lowest_on_a_tie c = refl

pub returns-clause-locked : goal.returns-clause-locked
unfolding insert look
returns-clause-locked c = refl

pub returns-clause-held_and_unheld : goal.returns-clause-held_and_unheld
unfolding insert look
returns-clause-held_and_unheld c = refl

pub returns-clause-passes_over_the_held : goal.returns-clause-passes_over_the_held
unfolding insert look
returns-clause-passes_over_the_held c = refl

pub returns-clause-not_locked : goal.returns-clause-not_locked
unfolding insert look
returns-clause-not_locked c = refl

pub returns-clause-loss_noted : goal.returns-clause-loss_noted
unfolding insert look
returns-clause-loss_noted c = refl

pub returns-clause-loss_of_another_feed : goal.returns-clause-loss_of_another_feed
unfolding insert look
returns-clause-loss_of_another_feed c = refl

pub returns-clause-expires_the_oldest : goal.returns-clause-expires_the_oldest
unfolding insert look expire stat
returns-clause-expires_the_oldest c = refl

pub returns-clause-expires_past_the_held : goal.returns-clause-expires_past_the_held
unfolding insert look expire stat
returns-clause-expires_past_the_held c = refl

pub returns-clause-counts : goal.returns-clause-counts
unfolding insert look expire stat
returns-clause-counts c = refl

pub returns-clause-counts_the_held : goal.returns-clause-counts_the_held
unfolding insert look expire stat
returns-clause-counts_the_held c = refl
