use Rattle.ldm_between_ends.proofs.Asking.{few-broken, few-received}
use Rattle.ldm_between_ends.proofs.FedFew.{CountLaws, fed-few}
use Rattle.ldm_between_ends.proofs.few_calls.few_calls_are_made.Goals as goal

-- what the laws say that are called
abbrev laws : goal.After-one_pass → CountLaws
laws c = record {
  goes_on = c.one_pass.ensures.goes_on;
  slots = c.regions_lie_apart.ensures.slots;
  sized = c.products_stay.ensures.whole;
  fits = c.products_stay.ensures.fits;
}

pub returns-clause-received : goal.returns-clause-received
returns-clause-received c = few-received

pub returns-clause-broke_off : goal.returns-clause-broke_off
returns-clause-broke_off c = few-broken

pub returns-clause-fed : goal.returns-clause-fed
returns-clause-fed c = λ why asked ahead old new before after feeds only small. fed-few (laws c) why asked ahead old new before after feeds only small
