use Rattle.ldm_feedtype.specs.Text.{feed_digits}
use Rattle.ldm_answers.specs.Answer.{blank_number}
use Rattle.ldm_answers.specs.Texts.{spelled}
use Rattle.ldm_stats.specs.Report.{hour_text}
use Rattle.ldm_stats.proofs.Digits.{line_put}
use Rattle.ldm_stats.proofs.line.put_line.Goals as goal

pub returns : goal.returns
returns c =
    let place = c.args.place.now in
    let total = c.args.total in
    rw (c.push-3.ensures.items, c.put_field-3.ensures.text, c.put_field-2.ensures.text, c.put_field.ensures.text, c.text_into.ensures.text, c.push-2.ensures.items, c.put-2.ensures.text, c.push.ensures.items, c.put.ensures.text, c.requires, c.as_slice.ensures.value, c.hour_text.ensures.text, c.hour.ensures.value, c.as_slice-2.ensures.value, c.feed_text.ensures.digits, c.feed.ensures, c.origin.ensures.value, c.from.ensures, c.count.ensures, c.bytes.ensures, c.latency.ensures)
    (line_put (hour_text place.hour) (feed_digits place.feed) (spelled place.origin) (blank_number total.count) (blank_number total.bytes) (blank_number total.latency))
