use Rattle.ldm_chain.proofs.UsedLaws.{Laws}
use Rattle.ldm_chain.proofs.Linked.{leaves}
use Rattle.ldm_chain.proofs.laws.a_link_passes_on.Goals as goal

-- what the laws say that are called
abbrev laws : goal.After-products_stay → Laws
laws c = record {
  read = c.the_setting_is_met.ensures.read;
  sound = c.the_setting_is_met.ensures.sound;
  passed = c.a_queue_is_passed_on.ensures.whole;
  narrows = c.a_narrower_class_is_asked_for.ensures;
  offered = c.one_pass_is_fed_all.ensures.offered;
  unchanged = c.one_pass_is_fed_all.ensures.unchanged;
  goes_on = c.one_pass.ensures.goes_on;
  admitted = c.products_were_admitted.ensures;
  sized = c.products_stay.ensures.whole;
  fits = c.products_stay.ensures.fits;
  received_few = c.few_calls_are_made.ensures.received;
}

pub returns-clause-queue : goal.returns-clause-queue
returns-clause-queue c = λ asked now old new before after links number only next asks. (leaves (laws c) asked now old new before after links number only next asks).queue

pub returns-clause-unchanged : goal.returns-clause-unchanged
returns-clause-unchanged c = λ asked now old new before after links number only next asks. (leaves (laws c) asked now old new before after links number only next asks).unchanged

pub returns-clause-only : goal.returns-clause-only
returns-clause-only c = λ asked now old new before after links number only next asks. (leaves (laws c) asked now old new before after links number only next asks).only

pub returns-clause-calls : goal.returns-clause-calls
returns-clause-calls c = λ asked now old new before after links number only next asks. (leaves (laws c) asked now old new before after links number only next asks).calls
