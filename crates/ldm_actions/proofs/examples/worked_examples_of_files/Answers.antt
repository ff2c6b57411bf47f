-- Each example computes.
use Rattle.std.proofs.Common.{refl}
use Rattle.ldm_actions.specs.Effects.{begun, finished, given, with_room}
use Rattle.ldm_actions.specs.Parts.{begin_parts}
use Rattle.ldm_actions.proofs.examples.worked_examples_of_files.Goals as goal

pub returns-clause-appends : goal.returns-clause-appends
unfolding begun given finished with_room begin_parts
returns-clause-appends c = refl

pub returns-clause-overwrites : goal.returns-clause-overwrites
unfolding begun given finished with_room begin_parts
returns-clause-overwrites c = refl

pub returns-clause-empties_before_the_body : goal.returns-clause-empties_before_the_body
unfolding begun given finished with_room begin_parts
returns-clause-empties_before_the_body c = refl

pub returns-clause-makes_an_empty_file : goal.returns-clause-makes_an_empty_file
unfolding begun given finished with_room begin_parts
returns-clause-makes_an_empty_file c = refl

pub returns-clause-strips : goal.returns-clause-strips
unfolding begun given finished with_room begin_parts
returns-clause-strips c = refl

pub returns-clause-writes_what_is_left : goal.returns-clause-writes_what_is_left
unfolding begun given finished with_room begin_parts
returns-clause-writes_what_is_left c = refl

pub returns-clause-fails_before_it_empties : goal.returns-clause-fails_before_it_empties
unfolding begun given finished with_room begin_parts
returns-clause-fails_before_it_empties c = refl

pub returns-clause-nothing : goal.returns-clause-nothing
unfolding begun given finished with_room begin_parts
returns-clause-nothing c = refl
