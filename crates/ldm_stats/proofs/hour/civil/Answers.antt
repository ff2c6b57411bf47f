use Rattle.std.proofs.Common.{◌≡◌, ℕ, ◌≤◌, sym, ap, ◌∙◌, refl, arith, pos, to_z, of_z, w16}
use Rattle.std.proofs.lemmas.Int.{to_z_pos}
use Rattle.jiff_core.specs.declared.civil.date.Date.{Date}
use Rattle.ldm_pqact_match.specs.Dates.{CivilDate, date_of_day}
use Rattle.ldm_pqact_match.proofs.Calendar.{date_of_day_is, year_of_day}
use Rattle.ldm_stats.proofs.hour.civil.Goals as goal

year_in : (day : ℕ) (date : Date) → (1970 ≤ (date_of_day day).year) × ((date_of_day day).year ≤ 2200) × (date.year ≡ pos (date_of_day day).year) →
    to_z w16 (of_z w16 date.year) ≡ pos (date_of_day day).year
year_in day date h = rw h.2 (to_z_pos w16 (date_of_day day).year (omega (arith, h.1)))

pub overflow_cast-result : goal.overflow_cast-result
overflow_cast-result c =
    let date = c.shown_on-date.result in
    let year = year_of_day c.args.day date c.requires c.shown_on-date.ensures in
    let shown = year_in c.args.day date year in
    rw shown (tt, omega (arith, year.1))

pub returns-clause-year : goal.returns-clause-year
returns-clause-year c =
    let date = c.shown_on-date.result in
    let shown = year_in c.args.day date (year_of_day c.args.day date c.requires c.shown_on-date.ensures) in
    rw shown refl

pub returns-clause-month : goal.returns-clause-month
returns-clause-month c =
    c.from.ensures ∙ sym (ap (λ (d : CivilDate). d.month) (date_of_day_is c.args.day c.shown_on-date.result c.requires c.shown_on-date.ensures))

pub returns-clause-day : goal.returns-clause-day
returns-clause-day c =
    c.from-2.ensures ∙ sym (ap (λ (d : CivilDate). d.day) (date_of_day_is c.args.day c.shown_on-date.result c.requires c.shown_on-date.ensures))

pub returns-clause-bound : goal.returns-clause-bound
returns-clause-bound c =
    let date = c.shown_on-date.result in
    let year = year_of_day c.args.day date c.requires c.shown_on-date.ensures in
    let shown = year_in c.args.day date year in
    rw shown year.1
