-- What a clock in UTC shows, as `Dates` has it.
use Rattle.std.proofs.Common.{◌≡◌, ℕ, ◌*◌, ◌/◌, ◌%◌, ◌≤◌, refl, arith, pos}
use Rattle.jiff_core.specs.Date.{epoch_day}
use Rattle.jiff_core.specs.DateTime.{civil_nanos}
use Rattle.jiff_core.specs.declared.civil.datetime.DateTime.{DateTime}
use Rattle.jiff_core.proofs.DateTimeLemmas.{civil_nanos-parts, time_nanos_bound}
use Rattle.jiff_core.proofs.SignedLemmas.{signed_arith}
use Rattle.ldm_types.specs.declared.limits.TheConstants.{GREATEST_INSTANT}
use Rattle.ldm_pqact_match.specs.Dates.{CivilMoment, moment_of, date_of_day}
use Rattle.ldm_pqact_match.proofs.Calendar.{seen, date_of_day_is, year_of_day}

-- the day that it shows
day_shown : (shown : DateTime) (micros : ℕ) → civil_nanos shown ≡ pos (micros * 1000) → epoch_day shown.date ≡ pos (micros / 1000000 / 86400)
day_shown shown micros e = omega (arith, signed_arith, e, civil_nanos-parts shown, time_nanos_bound shown.time)

-- and the time
time_shown : (shown : DateTime) (micros : ℕ) → civil_nanos shown ≡ pos (micros * 1000) →
    (shown.time.hour ≡ micros / 1000000 % 86400 / 3600) × (shown.time.minute ≡ micros / 1000000 % 3600 / 60) × (shown.time.second ≡ micros / 1000000 % 60)
time_shown shown micros e =
    let day = day_shown shown micros e in (
      omega (arith, signed_arith, e, day, civil_nanos-parts shown, time_nanos_bound shown.time),
      omega (arith, signed_arith, e, day, civil_nanos-parts shown, time_nanos_bound shown.time),
      omega (arith, signed_arith, e, day, civil_nanos-parts shown, time_nanos_bound shown.time),
    )

few : (micros : ℕ) → micros ≤ GREATEST_INSTANT → micros / 1000000 / 86400 ≤ 60000
few micros h = omega arith

-- what it shows is the moment
pub moment_shown : (shown : DateTime) (micros : ℕ) → micros ≤ GREATEST_INSTANT → civil_nanos shown ≡ pos (micros * 1000) →
    let moment : CivilMoment = record { date = seen shown.date; hour = shown.time.hour; minute = shown.time.minute; second = shown.time.second } in
    moment ≡ moment_of micros
moment_shown shown micros h e =
    let time = time_shown shown micros e in
    let date = date_of_day_is (micros / 1000000 / 86400) shown.date (few micros h) (day_shown shown micros e) in
    rw (time.0, time.1, time.2, ← date) refl

-- in a year that an instant can have
pub year_shown : (shown : DateTime) (micros : ℕ) → micros ≤ GREATEST_INSTANT → civil_nanos shown ≡ pos (micros * 1000) →
    (year : ℕ) × (shown.date.year ≡ pos year) × (1970 ≤ year) × (year ≤ 2200)
year_shown shown micros h e =
    let day = micros / 1000000 / 86400 in
    let year = year_of_day day shown.date (few micros h) (day_shown shown micros e) in
    ((date_of_day day).year, year.2, year.0, year.1)
