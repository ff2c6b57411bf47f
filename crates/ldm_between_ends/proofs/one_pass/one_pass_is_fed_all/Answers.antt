use Rattle.std.proofs.Common.{◌∙◌, refl, subst}
use Rattle.ldm_model.specs.State.{State}
use Rattle.ldm_sender.specs.declared.end.SendEnd.TheVariants as end
use Rattle.ldm_sender.specs.Opening.{closing_entries}
use Rattle.ldm_upstream.specs.Feeding.{given_of}
use Rattle.ldm_between_ends.specs.Alone.{AreRowsOf}
use Rattle.ldm_between_ends.proofs.OnePass.{whole_entries, seen-legal, seen-state, fed-makes, fed-opened}
use Rattle.ldm_between_ends.proofs.one_pass.one_pass_is_fed_all.Goals as goal

pub returns-clause-offered : goal.returns-clause-offered
returns-clause-offered c asked ahead old new before after feeds only zero none =
    let made = whole_entries old.actor asked feeds.feeding in
    let makes = fed-makes end.Stopped asked ahead old new before after feeds only refl in
    let goes_on = c.one_pass.ensures.goes_on old new made makes only.passes only.actor in
    let opened = fed-opened asked ahead old new before after feeds in
    let rows = subst (λ (s : State). AreRowsOf s (given_of feeds.feeding)) (seen-state old new made makes goes_on) feeds.rows in
    c.due_products_are_offered.ensures asked feeds.feeding feeds.is_feeding
    ∙ c.a_sole_reader_is_given_all.ensures.given old.arena old.slots old.actor old.seen (closing_entries old.actor feeds.feeding.answered) asked feeds.feeding
    opened.0 opened.1 feeds.last.0 (seen-legal old new made makes goes_on) opened.2 feeds.last.1 zero none rows

pub returns-clause-unchanged : goal.returns-clause-unchanged
returns-clause-unchanged c why asked ahead old new before after feeds only whole =
    let made = whole_entries old.actor asked feeds.feeding in
    let makes = fed-makes why asked ahead old new before after feeds only whole in
    let goes_on = c.one_pass.ensures.goes_on old new made makes only.passes only.actor in
    seen-state old new made makes goes_on
    ∙ c.a_sole_reader_is_given_all.ensures.unchanged old.arena old.slots old.actor old.seen asked feeds.feeding (seen-legal old new made makes goes_on) feeds.is_feeding
