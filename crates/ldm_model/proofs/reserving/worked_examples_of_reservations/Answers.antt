-- Each example computes.
use Rattle.std.proofs.Common.{refl}
use Rattle.ldm_model.specs.Insert.{insert}
use Rattle.ldm_model.specs.Open.{open_cursor}
use Rattle.ldm_model.specs.Step.{step}
use Rattle.ldm_model.specs.Read.{read}
use Rattle.ldm_model.specs.Expire.{expire}
use Rattle.ldm_model.specs.Stat.{stat}
use Rattle.ldm_model.specs.Reserve.{reserve}
use Rattle.ldm_model.specs.Fill.{fill, discard}
use Rattle.ldm_model.specs.Commit.{commit}
use Rattle.ldm_model.proofs.reserving.worked_examples_of_reservations.Goals as goal

pub returns-clause-filled_and_committed : goal.returns-clause-filled_and_committed
unfolding insert open_cursor step read expire stat reserve fill discard commit
returns-clause-filled_and_committed c = refl

pub returns-clause-duplicate_at_commit : goal.returns-clause-duplicate_at_commit
unfolding insert open_cursor step read expire stat reserve fill discard commit
returns-clause-duplicate_at_commit c = refl

pub returns-clause-duplicate_before_time_end : goal.returns-clause-duplicate_before_time_end
unfolding insert open_cursor step read expire stat reserve fill discard commit
returns-clause-duplicate_before_time_end c = refl

pub returns-clause-time_of_the_commit : goal.returns-clause-time_of_the_commit
unfolding insert open_cursor step read expire stat reserve fill discard commit
returns-clause-time_of_the_commit c = refl

pub returns-clause-no_time_left : goal.returns-clause-no_time_left
unfolding insert open_cursor step read expire stat reserve fill discard commit
returns-clause-no_time_left c = refl

pub returns-clause-stays_in_place : goal.returns-clause-stays_in_place
unfolding insert open_cursor step read expire stat reserve fill discard commit
returns-clause-stays_in_place c = refl

pub returns-clause-held : goal.returns-clause-held
unfolding insert open_cursor step read expire stat reserve fill discard commit
returns-clause-held c = refl

pub returns-clause-takes_a_slot : goal.returns-clause-takes_a_slot
unfolding insert open_cursor step read expire stat reserve fill discard commit
returns-clause-takes_a_slot c = refl

pub returns-clause-least_place : goal.returns-clause-least_place
unfolding insert open_cursor step read expire stat reserve fill discard commit
returns-clause-least_place c = refl

pub returns-clause-too_big : goal.returns-clause-too_big
unfolding insert open_cursor step read expire stat reserve fill discard commit
returns-clause-too_big c = refl

pub returns-clause-duplicate : goal.returns-clause-duplicate
unfolding insert open_cursor step read expire stat reserve fill discard commit
returns-clause-duplicate c = refl

pub returns-clause-places_before_room : goal.returns-clause-places_before_room
unfolding insert open_cursor step read expire stat reserve fill discard commit
returns-clause-places_before_room c = refl

pub returns-clause-locked_before_times : goal.returns-clause-locked_before_times
unfolding insert open_cursor step read expire stat reserve fill discard commit
returns-clause-locked_before_times c = refl

pub returns-clause-evicts : goal.returns-clause-evicts
unfolding insert open_cursor step read expire stat reserve fill discard commit
returns-clause-evicts c = refl
