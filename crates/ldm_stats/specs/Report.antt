-- The report of totals: a line for each hour, feed and origin.
use Rattle.std.specs.Prelude.{◌≡◌, ◌<◌, ℕ, Bool, true, not, ◌/◌, ◌%◌, ◌==◌, List, [], ◌∷◌, ◌++◌, filter, take, nat_le, if◌then◌else◌, Option, Some, None}
use Rattle.std.specs.List.{flat_map}
use Rattle.ldm_feedtype.specs.Text.{feed_digits}
use Rattle.ldm_answers.specs.Texts.{spelled}
use Rattle.ldm_answers.specs.Answer.{blank_field, blank_number}
use Rattle.ldm_pqact_match.specs.Dates.{CivilDate, date_of_day}
use Rattle.ldm_pqact_match.specs.Substitution.{last_digits}
use Rattle.ldm_stats.specs.Place.{Place}
use Rattle.ldm_stats.specs.Totals.{Product, Total, totals}
use Rattle.ldm_stats.specs.Joining.{Entries}

-- the entries of an hour
abbrev pub in_hour : ℕ → Entries → Entries
in_hour hour entries = filter (λ entry. entry.0.hour == hour) entries

-- `YYYYMMDD`
abbrev pub date_text : CivilDate → List ℕ
date_text date = last_digits 4 date.year ++ last_digits 2 date.month ++ last_digits 2 date.day

-- `YYYYMMDDHH`, in UTC
abbrev pub hour_text : ℕ → List ℕ
hour_text hour = date_text (date_of_day (hour / 24)) ++ last_digits 2 (hour % 24)

-- `YYYYMMDDHH FEED ORIGIN COUNT BYTES LATENCY`, with its newline
abbrev pub line_of : Place × Total → List ℕ
line_of entry =
    hour_text entry.0.hour ++ blank_field (feed_digits entry.0.feed) ++ blank_field (spelled entry.0.origin)
    ++ blank_number entry.1.count ++ blank_number entry.1.bytes ++ blank_number entry.1.latency ++ 10 ∷ []

-- a text was appended, or some first bytes of it
abbrev pub AppendsFront : List ℕ → List ℕ → List ℕ → Type 0
AppendsFront text before after = (n : ℕ) × (after ≡ before ++ take n text)

-- the entries that are asked for: those of an hour, or all
abbrev pub asked_of : Option ℕ → Entries → Entries
asked_of None entries = entries
asked_of (Some hour) entries = in_hour hour entries

-- of each entry, in order
abbrev pub lines_of : Entries → List ℕ
lines_of entries = flat_map line_of entries

-- the report of products, by the latest hours
abbrev pub report : ℕ → List Product → List ℕ
report window products = lines_of (totals window products)

-- the first hour of entries from an hour on
abbrev pub first_from : ℕ → Entries → Option ℕ
first_from from [] = None
first_from from (entry ∷ entries) = if nat_le from entry.0.hour then Some entry.0.hour else first_from from entries

-- the lines of an hour in that report
abbrev pub hour_report : ℕ → ℕ → List Product → List ℕ
hour_report hour window products = lines_of (in_hour hour (totals window products))

-- the hours behind one, of which hours in ascending order begin with it, or do not
abbrev pub behind_hour : ℕ → List ℕ → List ℕ
behind_hour hour [] = []
behind_hour hour (next ∷ hours) = if hour == next then hours else next ∷ hours

-- the hours of entries in ascending order, each once
abbrev pub hours_of : Entries → List ℕ
hours_of [] = []
hours_of (entry ∷ entries) = entry.0.hour ∷ behind_hour entry.0.hour (hours_of entries)

-- whether an hour is another one than the last, if there was one
abbrev pub is_other : Option ℕ → ℕ → Bool
is_other None hour = true
is_other (Some last) hour = not (last == hour)

-- the lines of entries, hour by hour
abbrev pub lines_by : List ℕ → Entries → List ℕ
lines_by hours entries = flat_map (λ hour. lines_of (in_hour hour entries)) hours

-- each is greater than those before it
abbrev pub AreOver : ℕ → List ℕ → Type 0
AreOver least [] = Unit {0}
AreOver least (hour ∷ hours) = (least < hour) × AreOver least hours

abbrev pub AreRising : List ℕ → Type 0
AreRising [] = Unit {0}
AreRising (hour ∷ hours) = AreOver hour hours × AreRising hours
