use Rattle.std.proofs.Common.{◌/◌, ◌%◌}
use Rattle.ldm_pqact_match.specs.Dates.{date_of_day}
use Rattle.ldm_stats.proofs.Digits.{dated}
use Rattle.ldm_stats.proofs.hour.hour_text.Goals as goal

pub returns-clause-text : goal.returns-clause-text
returns-clause-text c =
    rw (c.put_two-5.ensures.text, c.put_two-4.ensures.text, c.put_two-3.ensures.text, c.put_two-2.ensures.text, c.put_two.ensures.text, c.new-text.ensures, c.civil-date.ensures.year, c.civil-date.ensures.month, c.civil-date.ensures.day)
    (dated (date_of_day (c.args.hour / 24)).year (date_of_day (c.args.hour / 24)).month (date_of_day (c.args.hour / 24)).day (c.args.hour % 24))
