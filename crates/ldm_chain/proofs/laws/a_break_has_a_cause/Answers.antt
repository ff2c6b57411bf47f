use Rattle.ldm_chain.proofs.UsedLaws.{EndLaws, Laws}
use Rattle.ldm_chain.proofs.Broken.{wants-memory}
use Rattle.ldm_chain.proofs.Causing.{causes}
use Rattle.ldm_chain.proofs.KeepingFeeder.{keeps}
use Rattle.ldm_chain.proofs.laws.a_break_has_a_cause.Goals as goal

-- what the laws say that are called
abbrev laws : goal.After-products_stay → Laws
laws c = record {
  read = c.the_setting_is_met.ensures.read;
  sound = c.the_setting_is_met.ensures.sound;
  passed = c.a_queue_is_passed_on.ensures.whole;
  narrows = c.a_narrower_class_is_asked_for.ensures;
  offered = c.one_pass_is_fed_all.ensures.offered;
  unchanged = c.one_pass_is_fed_all.ensures.unchanged;
  goes_on = c.one_pass.ensures.goes_on;
  admitted = c.products_were_admitted.ensures;
  sized = c.products_stay.ensures.whole;
  fits = c.products_stay.ensures.fits;
  received_few = c.few_calls_are_made.ensures.received;
}

abbrev end_laws : goal.After-products_stay → EndLaws
end_laws c = record {
  live = c.products_are_passed_on.ensures.goes_on;
  replied = c.a_reply_is_taken.ensures.whole;
  part = c.a_reply_is_taken.ensures.part;
  answered = c.announcements_are_answered.ensures;
  fed = c.few_calls_are_made.ensures.fed;
  broke_off = c.few_calls_are_made.ensures.broke_off;
}

pub returns-clause-cause : goal.returns-clause-cause
returns-clause-cause c = λ end asked found old new before after breaks number only next fresh stood.
    causes (laws c) (end_laws c) asked number found old new before after only next fresh stood end breaks

pub returns-clause-kept : goal.returns-clause-kept
returns-clause-kept c = λ end asked old new before after breaks only.
    keeps (laws c) (record { only_reads = c.feedings_only_read.ensures; keeps = c.readers_keep_products.ensures }) asked old new before after only end breaks

pub returns-clause-memory : goal.returns-clause-memory
returns-clause-memory c = λ asked old new before after breaks. wants-memory breaks.end.receiver.end breaks.fed breaks.is
