-- Dates of the calendar, the moment that a product was inserted, and the date that a day of the month stands for. How long
-- months are, and how many days lie between dates, is said by the calendar of `jiff`.
use Rattle.std.specs.Prelude.{ℕ, zero, suc, ◌+◌, ◌-◌, ◌*◌, ◌/◌, ◌%◌, ◌&&◌, nat_le, nat_lt, if◌then◌else◌, List, [], ◌∷◌, map, Option, Some, None, ℤ, pos, ◌-ℤ◌, unsigned_abs}
use Rattle.jiff_core.specs.Calendar.{days_in_month, days_from_civil, day_of_year}

pub record CivilDate : Type 0 where
  pub year : ℕ
  -- from 1
  pub month : ℕ
  -- from 1
  pub day : ℕ

-- Months are counted from January of the year 0.
abbrev pub month_of : CivilDate → ℕ
month_of date = 12 * date.year + (date.month - 1)

-- how many days a month has
abbrev pub length_of : ℕ → ℕ
length_of month = days_in_month (pos (month / 12)) (month % 12 + 1)

-- a day of a month
abbrev pub date_in : ℕ → ℕ → CivilDate
date_in month day = record { year = month / 12; month = month % 12 + 1; day = day }

-- the date so many days behind the first of a month, which lies in that month or one of so many behind it
unfoldable pub date_behind : ℕ → ℕ → ℕ → CivilDate
date_behind zero month days = date_in month (days + 1)
date_behind (suc months) month days =
    if nat_lt days (length_of month) then date_in month (days + 1)
    else date_behind months (month + 1) (days - length_of month)

-- January of 1970
abbrev pub first_month : ℕ
first_month = 12 * 1970

-- the date of a day, counted from 1 January 1970. Each month has a day at least, so it lies at most that many months behind.
abbrev pub date_of_day : ℕ → CivilDate
date_of_day day = date_behind day first_month day

-- a date and a time of day
pub record CivilMoment : Type 0 where
  pub date : CivilDate
  pub hour : ℕ
  pub minute : ℕ
  pub second : ℕ

-- the moment in UTC, by seconds since the beginning of 1970
abbrev pub moment_at : ℕ → CivilMoment
moment_at seconds = record {
  date = date_of_day (seconds / 86400);
  hour = seconds % 86400 / 3600;
  minute = seconds % 3600 / 60;
  second = seconds % 60;
}

-- the same, by microseconds
abbrev pub moment_of : ℕ → CivilMoment
moment_of micros = moment_at (micros / 1000000)

-- the place of a date in its year, from 1
abbrev pub place_in_year : CivilDate → ℕ
place_in_year date = day_of_year (pos date.year) date.month date.day

-- the days from 1 January 1970 to a date
abbrev pub number_of : CivilDate → ℤ
number_of date = days_from_civil (pos date.year) date.month date.day

-- how many days two dates are apart
abbrev pub distance : CivilDate → CivilDate → ℕ
distance one other = unsigned_abs (number_of other -ℤ number_of one)

-- that day of a month, if the month has it
abbrev pub day_in : ℕ → ℕ → Option CivilDate
day_in day month = if nat_le 1 day && nat_le day (length_of month) then Some (date_in month day) else None

-- the nearer of a date and one behind it, and of two equally near ones the first
abbrev pub nearer : CivilDate → Option CivilDate → Option CivilDate → Option CivilDate
nearer today None later = later
nearer today (Some date) None = Some date
nearer today (Some date) (Some later) = if nat_lt (distance today later) (distance today date) then Some later else Some date

-- of dates in ascending order, the least by distance and date
abbrev pub nearest_of : CivilDate → List (Option CivilDate) → Option CivilDate
nearest_of today [] = None
nearest_of today (date ∷ later) = nearer today date (nearest_of today later)

-- the previous, this and the next month
abbrev pub months_about : CivilDate → List ℕ
months_about today = (month_of today - 1) ∷ month_of today ∷ (month_of today + 1) ∷ []

-- the date that a day of the month stands for: the nearest to a date that is that day of the previous, this or the next month
abbrev pub nearest : CivilDate → ℕ → Option CivilDate
nearest today day = nearest_of today (map (day_in day) (months_about today))
