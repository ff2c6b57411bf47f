use Rattle.std.proofs.Common.{◌/◌, ◌∙◌, ap, refl}
use Rattle.ldm_watch.specs.Instants.{instant_text}
use Rattle.ldm_watch.proofs.Timed.{timed}
use Rattle.ldm_watch.proofs.dates.instant_text.Goals as goal

pub returns-clause-text : goal.returns-clause-text
returns-clause-text c =
    rw (c.push-4.ensures.items, c.put_digits-3.ensures.text, c.push-3.ensures.items, c.put_digits-2.ensures.text, c.push-2.ensures.items, c.put_digits.ensures.text, c.push.ensures.items, c.put_date.ensures.text)
    (timed c.get-micros.result (c.get-micros.result / 1000000 / 3600) refl ∙ ap instant_text c.get-micros.ensures.value)
