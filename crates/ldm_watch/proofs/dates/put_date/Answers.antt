use Rattle.std.proofs.Common.{◌/◌, ◌%◌, ◌∙◌}
use Rattle.ldm_pqact_match.specs.Dates.{date_of_day}
use Rattle.ldm_watch.proofs.Timed.{dated}
use Rattle.ldm_watch.proofs.dates.put_date.Goals as goal

pub returns-clause-text : goal.returns-clause-text
returns-clause-text c =
    rw (c.put-4.ensures.text, c.push-3.ensures.items, c.put-3.ensures.text, c.push-2.ensures.items, c.put-2.ensures.text, c.push.ensures.items, c.put.ensures.text, c.requires.empty)
    (dated (date_of_day (c.args.hour / 24)) (c.args.hour % 24) c.as_slice-digits.result.now (c.as_slice-digits.ensures.value ∙ c.hour_text-digits.ensures.text))
