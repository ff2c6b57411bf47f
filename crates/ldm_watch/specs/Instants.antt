-- Instants, for people.
use Rattle.std.specs.Prelude.{ℕ, ◌%◌, List, [], ◌∷◌, ◌++◌}
use Rattle.ldm_pqact_match.specs.Dates.{CivilDate, CivilMoment, moment_of}
use Rattle.ldm_pqact_match.specs.Substitution.{last_digits}

-- `YYYY-MM-DD`, with `-` (45) between two
abbrev pub date_text : CivilDate → List ℕ
date_text date = last_digits 4 date.year ++ 45 ∷ last_digits 2 date.month ++ 45 ∷ last_digits 2 date.day

-- `HH:MM:SS`, with `:` (58) between two
abbrev pub time_text : CivilMoment → List ℕ
time_text moment = last_digits 2 moment.hour ++ 58 ∷ last_digits 2 moment.minute ++ 58 ∷ last_digits 2 moment.second

-- `YYYY-MM-DDTHH:MM:SS.UUUUUUZ`, in UTC, by the microseconds since the beginning of 1970: a date and a time of day of ISO 8601, of which the
-- last six digits are microseconds; `T` is 84, `.` 46 and `Z` 90
unfoldable pub instant_text : ℕ → List ℕ
instant_text micros =
    date_text (moment_of micros).date ++ 84 ∷ time_text (moment_of micros) ++ 46 ∷ last_digits 6 (micros % 1000000) ++ 90 ∷ []
