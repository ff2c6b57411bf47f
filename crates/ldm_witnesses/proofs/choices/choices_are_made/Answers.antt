use Rattle.std.proofs.Common.{true, refl}
use Rattle.std.proofs.Math.Bool.{and-false, and-true, or-true}
use Rattle.ldm_types.specs.Feed.{feeds_meet}
use Rattle.ldm_pattern.specs.Patterns.{found}
use Rattle.ldm_class.specs.Access.{found_or}
use Rattle.ldm_class.specs.Classes.{spec_wants}
use Rattle.ldm_pqact_match.specs.Choice.{chosen_behind}
use Rattle.jiff_core.specs.Calendar.{day_count, days_from_civil, days_of_months, days_of_years}
use Rattle.ldm_witnesses.proofs.choices.choices_are_made.Goals as goal

pub returns-clause-rules : goal.returns-clause-rules
returns-clause-rules c = record {
  first = λ host info one other passes. rw (passes.0, passes.1);
  behind_a_stop = λ host info one other stops passes. rw (stops.0, stops.1, passes.0, passes.1);
  behind_another_host = λ host info one other unmet passes. rw (unmet, passes.0, passes.1);
  both_stop = λ host info one other stops others. rw (stops.0, stops.1, others.0, others.1);
  other_stops = λ host info one other unmet stops. rw (unmet, stops.0, stops.1);
  none_meets = λ host info one other unmet others. rw (unmet, others);
}

pub returns-clause-lines : goal.returns-clause-lines
returns-clause-lines c = record {
  no_pattern = λ info feed host. refl;
  pattern = λ info feed host ok. and-true (found ok info.ident);
  notpattern = λ info feed host ok no there. rw there (and-false (found_or true ok info.ident));
  both = λ info feed host ok no there not_there. rw (there, not_there);
  accept = λ info feed host pattern. and-true (found pattern info.ident);
  about = λ name feed host pattern. refl;
}

pub returns-clause-classes : goal.returns-clause-classes
returns-clause-classes c = record {
  first = λ info class one other two wanted. rw (two, wanted);
  second = λ info class one other two wanted. rw (two, wanted) (or-true (spec_wants info one));
  neither = λ info class one other two not_one not_other. rw (two, not_one, not_other);
  other_pattern = λ info spec there. rw there (and-false (feeds_meet spec.feed.0 info.feed));
  other_feedtype = λ info spec apart. rw apart;
  both = λ info spec meets there. rw (meets, there);
}

pub returns-clause-entries : goal.returns-clause-entries
unfolding chosen_behind
returns-clause-entries c = record {
  both_match = λ info time one other matches others. rw (matches, others);
  else_behind_a_match = λ info time one other matches els. rw (matches, els, and-false (feeds_meet other.feed info.feed));
  else_behind_a_miss = λ info time one other pattern has missed els meets. rw (missed, has, els, meets);
  else_of_another_feedtype = λ info time one other pattern has missed els apart. rw (missed, has, els, apart);
}

pub returns-clause-dates : goal.returns-clause-dates
unfolding days_from_civil day_count days_of_years days_of_months
returns-clause-dates c = record {
  today = refl;
  month_before = refl;
  month_behind = refl;
  year_before = refl;
  no_31_of_february = refl;
  no_31_about_march = refl;
  leap_day = refl;
  no_leap_day = refl;
  tie = refl;
  tie_over_a_month = refl;
  no_tie = refl;
  no_day = refl;
  behind_31 = refl;
}
