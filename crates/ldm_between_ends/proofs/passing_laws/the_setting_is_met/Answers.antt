use Rattle.std.proofs.Common.{List, subst}
use Rattle.ldm_session.specs.Owed.{Code}
use Rattle.ldm_between_ends.specs.Codes.{Agree}
use Rattle.ldm_between_ends.proofs.Saying.{agree-heard}
use Rattle.ldm_between_ends.proofs.Setting.{has-requested, short-of_extent, agrees-front}
use Rattle.ldm_between_ends.proofs.passing_laws.the_setting_is_met.Goals as goal

pub returns-clause-requested : goal.returns-clause-requested
returns-clause-requested c = has-requested

pub returns-clause-sound : goal.returns-clause-sound
returns-clause-sound c = λ given info sized within. record { info = info; sized = sized; short = short-of_extent given.product.info within }

pub returns-clause-read : goal.returns-clause-read
returns-clause-read c = λ p given more behind granted asker carries leads said is.
    agree-heard c.what_is_written_is_read.ensures c.streams_are_read.ensures p granted asker carries leads given more behind said is

pub returns-clause-heard : goal.returns-clause-heard
returns-clause-heard c = λ codes behind replies is. subst (λ (x : List Code). Agree codes x) is (agrees-front codes behind)
