-- The dates of `Dates` have the day numbers of `jiff`.
use Rattle.std.proofs.Common.{◌≡◌, ℕ, zero, suc, ◌+◌, ◌-◌, ◌*◌, ◌/◌, ◌%◌, ◌<◌, ◌≤◌, true, false, refl, sym, inl, inr, arith, ℤ, pos, ◌+ℤ◌, unsigned_abs}
use Rattle.std.specs.Prelude.{nat_lt}
use Rattle.std.proofs.lemmas.Bool.{cases_lt}
use Rattle.std.proofs.lemmas.Bool.Decides.{nat_tests}
use Rattle.jiff_core.specs.Calendar.{days_from_civil, IsCivilDate}
use Rattle.jiff_core.specs.Date.{epoch_day}
use Rattle.jiff_core.specs.declared.civil.date.Date.{Date}
use Rattle.jiff_core.proofs.CalendarLemmas.{days_in_month_bounds}
use Rattle.jiff_core.proofs.DateLemmas.{epoch_day_injective, days_from_civil-day, days_from_civil-next_month, days_from_civil-next_year}
use Rattle.jiff_core.proofs.SignedLemmas.{signed_arith}
use Rattle.jiff_core.proofs.StandardFacts.{known_days}
use Rattle.ldm_pqact_match.specs.Dates.{CivilDate, month_of, length_of, date_in, date_behind, first_month, date_of_day, number_of}

-- the day number of the first of a month
abbrev first_of : ℕ → ℤ
first_of month = days_from_civil (pos (month / 12)) (month % 12 + 1) 1

-- a date lies so many days behind the first of a month
pub record LiesBehind (month days : ℕ) (date : CivilDate) : Type 0 where
  pub civil : IsCivilDate (pos date.year) date.month date.day
  pub number : number_of date ≡ first_of month +ℤ pos days
  pub from : month ≤ month_of date
  pub to : 28 * month_of date ≤ 28 * month + days

in_month : (month days : ℕ) → month < 119988 → days < length_of month → LiesBehind month days (date_in month (days + 1))
in_month month days low short = record {
  civil = ((omega (arith, signed_arith), omega (arith, signed_arith)), (omega arith, omega arith), (omega arith, omega arith));
  number = omega (arith, signed_arith, days_from_civil-day (pos (month / 12)) (month % 12 + 1) 1 (days + 1) (omega arith) (omega arith));
  from = omega arith;
  to = omega arith;
}

same_year : (month : ℕ) → month % 12 < 11 → first_of (month + 1) ≡ first_of month +ℤ pos (length_of month)
same_year month h =
    let year : (month + 1) / 12 ≡ month / 12 = omega arith in
    let place : (month + 1) % 12 ≡ month % 12 + 1 = omega arith in
    let bounds = days_in_month_bounds (pos (month / 12)) (month % 12 + 1) in
    let next = days_from_civil-next_month (pos (month / 12)) (month % 12 + 1) (length_of month) (omega arith) refl in
    let within = days_from_civil-day (pos (month / 12)) (month % 12 + 1) 1 (length_of month) (omega arith) (omega (arith, bounds)) in
    rw (year, place) (omega (arith, signed_arith, next, within))

next_year : (month : ℕ) → 11 ≤ month % 12 → first_of (month + 1) ≡ first_of month +ℤ pos (length_of month)
next_year month h =
    let year : (month + 1) / 12 ≡ month / 12 + 1 = omega arith in
    let place : (month + 1) % 12 ≡ 0 = omega arith in
    let december : month % 12 ≡ 11 = omega arith in
    let next = days_from_civil-next_year (pos (month / 12)) (pos (month / 12 + 1)) (omega (arith, signed_arith)) (omega (arith, signed_arith)) in
    let within = days_from_civil-day (pos (month / 12)) 12 1 31 (omega arith) (omega arith) in
    rw (year, place, december) (omega (arith, signed_arith, next, within))

-- the first of a month lies so many days behind the first of the month before as that has
next_first : (month : ℕ) → first_of (month + 1) ≡ first_of month +ℤ pos (length_of month)
next_first month = elim (cases_lt (month % 12) 11) [ inl lt ↦ same_year month lt | inr ge ↦ next_year month ge ]

later : (month days : ℕ) (date : CivilDate) → length_of month ≤ days → LiesBehind (month + 1) (days - length_of month) date → LiesBehind month days date
later month days date long h =
    let bounds = days_in_month_bounds (pos (month / 12)) (month % 12 + 1) in
    record {
      civil = h.civil;
      number = omega (arith, signed_arith, h.number, next_first month);
      from = omega (arith, h.from);
      to = omega (arith, h.to, bounds);
    }

walk : (months month days : ℕ) → days ≤ months → month + months < 119988 → LiesBehind month days (date_behind months month days)
unfolding date_behind
walk zero month days few low =
    let bounds = days_in_month_bounds (pos (month / 12)) (month % 12 + 1) in
    in_month month days (omega arith) (omega (arith, bounds))
walk (suc months) month days few low =
    let bounds = days_in_month_bounds (pos (month / 12)) (month % 12 + 1) in
    elim (cases_lt days (length_of month)) [
      | inl short ↦
          let test : nat_lt days (length_of month) ≡ true = grind (arith, nat_tests) in
          rw test (in_month month days (omega arith) short)
      | inr long ↦
          let test : nat_lt days (length_of month) ≡ false = grind (arith, nat_tests) in
          rw test (later month days _ long (walk months (month + 1) (days - length_of month) (omega (arith, bounds)) (omega arith)))
    ]

-- what contracts see of a date of `jiff`
abbrev pub seen : Date → CivilDate
seen date = record { year = unsigned_abs date.year; month = date.month; day = date.day }

as_date : (date : CivilDate) → IsCivilDate (pos date.year) date.month date.day → Date
as_date date civil = record { year = pos date.year; month = date.month; day = date.day; year_in = civil.0; month_in = civil.1; day_in = civil.2 }

-- the date of a day, as `jiff` has it
pub date_of_day_is : (day : ℕ) (date : Date) → day ≤ 60000 → epoch_day date ≡ pos day → date_of_day day ≡ seen date
unfolding as_date
date_of_day_is day date few e =
    let at = walk day first_month day (omega arith) (omega arith) in
    let mine = date_of_day day in
    let number : number_of mine ≡ epoch_day date = omega (arith, signed_arith, at.number, known_days.0, e) in
    let same = epoch_day_injective (as_date mine at.civil) date number in
    rw (← same.0, ← same.1, ← same.2) refl

-- and its year
pub year_of_day : (day : ℕ) (date : Date) → day ≤ 60000 → epoch_day date ≡ pos day →
    (1970 ≤ (date_of_day day).year) × ((date_of_day day).year ≤ 2200) × (date.year ≡ pos (date_of_day day).year)
unfolding as_date
year_of_day day date few e =
    let at = walk day first_month day (omega arith) (omega arith) in
    let mine = date_of_day day in
    let number : number_of mine ≡ epoch_day date = omega (arith, signed_arith, at.number, known_days.0, e) in
    let same = epoch_day_injective (as_date mine at.civil) date number in
    (omega (arith, at.from, at.civil.1), omega (arith, at.to, at.civil.1), sym same.0)
