use Rattle.std.proofs.Common.{refl}
use Rattle.ldm_wmo.specs.Headings.{fits}
use Rattle.ldm_wmo.specs.Lines.{heading_in, number_from, number_in}
use Rattle.ldm_wmo.specs.Bulletins.{bulletin_of, is_closed_text}
use Rattle.ldm_wmo.specs.Scanning.{after_byte}
use Rattle.ldm_wmo.specs.Streams.{in_hand, items_in}
use Rattle.ldm_wmo.proofs.examples.worked_examples.Goals as goal

pub returns-clause-size : goal.returns-clause-size
returns-clause-size c = refl

pub returns-clause-items : goal.returns-clause-items
unfolding items_in after_byte bulletin_of is_closed_text heading_in fits number_in number_from
returns-clause-items c = refl

pub returns-clause-cut : goal.returns-clause-cut
unfolding in_hand after_byte
returns-clause-cut c = refl

pub returns-clause-no_digit : goal.returns-clause-no_digit
unfolding number_in number_from
returns-clause-no_digit c = refl

pub returns-clause-one_digit : goal.returns-clause-one_digit
unfolding number_in number_from
returns-clause-one_digit c = refl

pub returns-clause-five_digits : goal.returns-clause-five_digits
unfolding number_in number_from
returns-clause-five_digits c = refl

pub returns-clause-six_digits : goal.returns-clause-six_digits
unfolding number_in number_from
returns-clause-six_digits c = refl

pub returns-clause-blank_before : goal.returns-clause-blank_before
unfolding number_in number_from
returns-clause-blank_before c = refl

pub returns-clause-indicator : goal.returns-clause-indicator
unfolding heading_in fits
returns-clause-indicator c = refl

pub returns-clause-no_indicator : goal.returns-clause-no_indicator
unfolding heading_in fits
returns-clause-no_indicator c = refl

pub returns-clause-short_indicator : goal.returns-clause-short_indicator
unfolding heading_in fits
returns-clause-short_indicator c = refl

pub returns-clause-station : goal.returns-clause-station
unfolding fits
returns-clause-station c = refl

pub returns-clause-letter : goal.returns-clause-letter
unfolding fits
returns-clause-letter c = refl

pub returns-clause-tab : goal.returns-clause-tab
unfolding fits
returns-clause-tab c = refl
