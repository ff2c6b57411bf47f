use Rattle.ldm_between_ends.proofs.Meeting.{PassingLaws, carries-all, follows, meets, no-fault}
use Rattle.ldm_between_ends.proofs.meeting_laws.two_ends_make_a_session.Goals as goal

-- what the laws say that are called
abbrev passing_laws : goal.After-own_readers → PassingLaws
passing_laws c = record {
  products = record {
    admitted = c.products_were_admitted.ensures;
    sized = c.products_stay.ensures.whole;
    fits = c.products_stay.ensures.fits;
    sound = c.the_setting_is_met.ensures.sound;
  };
  seen = c.own_readers.ensures.seen;
  requested = c.the_setting_is_met.ensures.requested;
  read = c.the_setting_is_met.ensures.read;
  goes_on = c.products_are_passed_on.ensures.goes_on;
}

pub returns-clause-session : goal.returns-clause-session
returns-clause-session c = λ f r connects was. meets (passing_laws c) f r connects was.0 was.1 was.2

pub returns-clause-no_fault : goal.returns-clause-no_fault
returns-clause-no_fault c = λ f r connects was. no-fault (passing_laws c) f r connects was.0 was.1 was.2

pub returns-clause-whole : goal.returns-clause-whole
returns-clause-whole c = carries-all

pub returns-clause-follows : goal.returns-clause-follows
returns-clause-follows c = follows
