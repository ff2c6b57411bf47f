-- Each example computes.
use Rattle.std.proofs.Common.{refl}
use Rattle.ldm_actions.specs.Effects.{begun, finished, given, with_room}
use Rattle.ldm_actions.proofs.examples.worked_examples_of_programs.Goals as goal

pub returns-clause-one_child : goal.returns-clause-one_child
unfolding begun given finished with_room
returns-clause-one_child c = refl

pub returns-clause-closes_all : goal.returns-clause-closes_all
unfolding begun given finished with_room
returns-clause-closes_all c = refl

pub returns-clause-closes_each : goal.returns-clause-closes_each
unfolding begun given finished with_room
returns-clause-closes_each c = refl

pub returns-clause-joins_words : goal.returns-clause-joins_words
unfolding begun given finished with_room
returns-clause-joins_words c = refl

pub returns-clause-starts_each_time : goal.returns-clause-starts_each_time
unfolding begun given finished with_room
returns-clause-starts_each_time c = refl

pub returns-clause-waits : goal.returns-clause-waits
unfolding begun given finished with_room
returns-clause-waits c = refl

pub returns-clause-fills : goal.returns-clause-fills
unfolding begun given finished with_room
returns-clause-fills c = (refl, refl)

pub returns-clause-ends_the_longest_unwritten : goal.returns-clause-ends_the_longest_unwritten
unfolding begun given finished with_room
returns-clause-ends_the_longest_unwritten c = (refl, refl, refl)

pub returns-clause-ends_none_that_was_written_since : goal.returns-clause-ends_none_that_was_written_since
unfolding begun given finished with_room
returns-clause-ends_none_that_was_written_since c = (refl, refl)

pub returns-clause-fails_at_the_second_child : goal.returns-clause-fails_at_the_second_child
unfolding begun given finished with_room
returns-clause-fails_at_the_second_child c = refl
