use Rattle.std.proofs.Common.{refl}
use Rattle.ldm_wmo.specs.Bulletins.{bulletin_of, is_closed_text}
use Rattle.ldm_wmo.specs.Frames.{head_of, is_enclosed}
use Rattle.ldm_wmo.specs.Headings.{fits}
use Rattle.ldm_wmo.specs.Lines.{heading_in, number_from, number_in}
use Rattle.ldm_wmo.specs.Messages.{frame_of, messages_from}
use Rattle.ldm_wmo.specs.Scanning.{after_byte, headed}
use Rattle.ldm_wmo.specs.Streams.{in_hand, items_in}
use Rattle.ldm_wmo.proofs.frame_examples.worked_examples_of_frames.Goals as goal

pub returns-clause-size : goal.returns-clause-size
returns-clause-size c = refl

pub returns-clause-scanned : goal.returns-clause-scanned
unfolding items_in after_byte headed head_of is_enclosed bulletin_of is_closed_text heading_in fits number_in number_from
returns-clause-scanned c = refl

pub returns-clause-scanned_cut : goal.returns-clause-scanned_cut
unfolding in_hand after_byte headed head_of is_enclosed number_from
returns-clause-scanned_cut c = refl

pub returns-clause-items : goal.returns-clause-items
unfolding messages_from frame_of head_of is_enclosed bulletin_of is_closed_text heading_in fits number_in number_from
returns-clause-items c = refl

pub returns-clause-cut : goal.returns-clause-cut
unfolding messages_from frame_of head_of is_enclosed bulletin_of is_closed_text heading_in fits number_in number_from
returns-clause-cut c = refl

pub returns-clause-right_length : goal.returns-clause-right_length
unfolding messages_from frame_of head_of is_enclosed bulletin_of is_closed_text heading_in fits number_in number_from
returns-clause-right_length c = refl

pub returns-clause-text_alone : goal.returns-clause-text_alone
unfolding messages_from frame_of head_of is_enclosed bulletin_of is_closed_text heading_in fits number_in number_from
returns-clause-text_alone c = refl

pub returns-clause-one_less : goal.returns-clause-one_less
unfolding messages_from frame_of head_of is_enclosed bulletin_of is_closed_text heading_in fits number_in number_from
returns-clause-one_less c = refl

pub returns-clause-one_more : goal.returns-clause-one_more
unfolding messages_from frame_of head_of is_enclosed bulletin_of is_closed_text heading_in fits number_in number_from
returns-clause-one_more c = refl

pub returns-clause-other_type : goal.returns-clause-other_type
unfolding messages_from frame_of head_of is_enclosed bulletin_of is_closed_text heading_in fits number_in number_from
returns-clause-other_type c = refl

pub returns-clause-no_digits : goal.returns-clause-no_digits
unfolding messages_from frame_of head_of is_enclosed bulletin_of is_closed_text heading_in fits number_in number_from
returns-clause-no_digits c = refl

pub returns-clause-uncut : goal.returns-clause-uncut
unfolding messages_from frame_of head_of is_enclosed bulletin_of is_closed_text heading_in fits number_in number_from
returns-clause-uncut c = refl

pub returns-clause-no_bytes : goal.returns-clause-no_bytes
unfolding head_of number_from
returns-clause-no_bytes c = refl

pub returns-clause-longest : goal.returns-clause-longest
unfolding head_of number_from
returns-clause-longest c = refl

pub returns-clause-too_long : goal.returns-clause-too_long
unfolding head_of number_from
returns-clause-too_long c = refl

pub returns-clause-facsimile : goal.returns-clause-facsimile
unfolding head_of number_from
returns-clause-facsimile c = refl
