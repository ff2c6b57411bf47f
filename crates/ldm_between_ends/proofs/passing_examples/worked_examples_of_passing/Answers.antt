use Rattle.std.proofs.Common.{[], ◌∷◌, inr, refl, arith}
use Rattle.ldm_model.specs.Commit.{commit}
use Rattle.ldm_model.specs.Fill.{fill}
use Rattle.ldm_model.specs.Insert.{insert}
use Rattle.ldm_model.specs.Reserve.{reserve}
use Rattle.ldm_model.specs.declared.event.Reply.TheVariants as reply
use Rattle.ldm_between_ends.specs.PassingExamples.{fills}
use Rattle.ldm_between_ends.proofs.passing_examples.worked_examples_of_passing.Goals as goal

pub returns-clause-whole : goal.returns-clause-whole
returns-clause-whole c = record { now = 500; reply = reply.Duplicate 0; moment = (1, omega arith, refl); is = refl }

pub returns-clause-once : goal.returns-clause-once
returns-clause-once c = λ takes. cc takes.is

pub returns-clause-declined : goal.returns-clause-declined
returns-clause-declined c = record { reply = reply.Duplicate 0; refused = refl; is = refl }

pub returns-clause-blocks : goal.returns-clause-blocks
returns-clause-blocks c = record {
  r = 5;
  evicted = 0;
  fills = fills (65 ∷ 66 ∷ 67 ∷ 68 ∷ []) ∷ [];
  filled = (refl, tt);
  now = 500;
  reply = reply.Committed 7 500;
  moment = (0, omega arith, refl);
  is = refl;
}

pub returns-clause-begun : goal.returns-clause-begun
returns-clause-begun c = inr (record {
  r = 5;
  evicted = 0;
  front = [];
  behind = (65 ∷ 66 ∷ 67 ∷ 68 ∷ []) ∷ [];
  all = refl;
  more = λ none. cc none;
  fills = [];
  filled = tt;
  is = refl;
})

pub returns-clause-queued : goal.returns-clause-queued
unfolding insert
returns-clause-queued c = refl

pub returns-clause-queued_in_blocks : goal.returns-clause-queued_in_blocks
unfolding reserve fill commit
returns-clause-queued_in_blocks c = refl

pub returns-clause-no_room : goal.returns-clause-no_room
unfolding reserve
returns-clause-no_room c = refl
