use Rattle.std.proofs.Common.{refl}
use Rattle.std.specs.Fmt.{digits}
use Rattle.hex.specs.Hex.{encode_with}
use Rattle.ldm_types.specs.Info.{Metadata}
use Rattle.ldm_feedtype.specs.Names.{feed_names}
use Rattle.ldm_feedtype.specs.Text.{hex_digits}
use Rattle.ldm_pqact_match.specs.Dates.{date_behind}
use Rattle.ldm_pqact_match.specs.Substitution.{last_digits}
use Rattle.ldm_watch.specs.FeedNames.{feeds_text, members_text}
use Rattle.ldm_watch.specs.Instants.{instant_text}
use Rattle.ldm_watch.specs.Notices.{notice_line}
use Rattle.ldm_watch.proofs.examples.worked_examples.Goals as goal

pub returns-clause-line : goal.returns-clause-line
unfolding notice_line digits encode_with hex_digits
returns-clause-line c = (refl, λ (info : Metadata). refl)

pub returns-clause-line_of_names : goal.returns-clause-line_of_names
unfolding notice_line instant_text feeds_text feed_names date_behind last_digits digits encode_with hex_digits
returns-clause-line_of_names c = refl

pub returns-clause-dates : goal.returns-clause-dates
unfolding instant_text date_behind last_digits
returns-clause-dates c = (refl, refl, refl, refl, refl)

pub returns-clause-feeds : goal.returns-clause-feeds
unfolding feeds_text members_text feed_names
returns-clause-feeds c = (refl, refl, refl, refl, refl)
