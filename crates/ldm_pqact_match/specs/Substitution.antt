-- What the words of an entry become.
use Rattle.std.specs.Prelude.{ℕ, zero, suc, ◌+◌, ◌-◌, ◌*◌, ◌/◌, ◌%◌, ◌&&◌, nat_le, if◌then◌else◌, List, [], ◌∷◌, ◌++◌, slice_index_or, codes, decimal, Option, Some, None, unwrap_or, Result, Ok, Err}
use Rattle.std.specs.Char.{is_ascii_digit}
use Rattle.std.specs.Option.{ok_or, option_and_then, option_map}
use Rattle.ldm_pqact_match.specs.declared.forms.Mark.{Mark}
use Rattle.ldm_pqact_match.specs.declared.forms.Mark.TheVariants.{Sequence, Percent, Year, ShortYear, Month, Day, Hour, Minute, Second, DayOfYear}
use Rattle.ldm_pqact_match.specs.declared.forms.DatePart.{DatePart}
use Rattle.ldm_pqact_match.specs.declared.forms.DatePart.TheVariants.{Year as YearPart, ShortYear as ShortYearPart, Month as MonthPart, MonthName as MonthNamePart, Day as DayPart, Hour as HourPart}
use Rattle.ldm_pqact_match.specs.declared.forms.Piece.{Piece}
use Rattle.ldm_pqact_match.specs.declared.forms.Piece.TheVariants.{Byte, Group, Date, Mark as MarkPiece}
use Rattle.ldm_pqact_match.specs.Dates.{CivilDate, CivilMoment, nearest, place_in_year}
use Rattle.ldm_pqact_match.specs.Forms.{pieces_of}

-- what the forms in a word stand for
pub record Meanings : Type 0 where
  -- the parts of the ident that groups 1 to 9 have
  pub groups : List (Option (List ℕ))
  -- when the product was inserted
  pub inserted : CivilMoment
  pub seqno : ℕ

-- the last so many decimal digits of a number
unfoldable pub last_digits : ℕ → ℕ → List ℕ
last_digits zero number = []
last_digits (suc count) number = last_digits count (number / 10) ++ (48 + number % 10) ∷ []

abbrev pub month_names : List (List ℕ)
month_names =
    codes "jan" ∷ codes "feb" ∷ codes "mar" ∷ codes "apr" ∷ codes "may" ∷ codes "jun"
    ∷ codes "jul" ∷ codes "aug" ∷ codes "sep" ∷ codes "oct" ∷ codes "nov" ∷ codes "dec" ∷ []

-- the name of a month, from 1
abbrev pub month_name : ℕ → List ℕ
month_name month = slice_index_or month_names (month - 1) []

abbrev pub mark_text : Meanings → Mark → List ℕ
mark_text meanings Sequence = decimal meanings.seqno
mark_text meanings Percent = codes "%"
mark_text meanings Year = last_digits 4 meanings.inserted.date.year
mark_text meanings ShortYear = last_digits 2 meanings.inserted.date.year
mark_text meanings Month = last_digits 2 meanings.inserted.date.month
mark_text meanings Day = last_digits 2 meanings.inserted.date.day
mark_text meanings Hour = last_digits 2 meanings.inserted.hour
mark_text meanings Minute = last_digits 2 meanings.inserted.minute
mark_text meanings Second = last_digits 2 meanings.inserted.second
mark_text meanings DayOfYear = last_digits 3 (place_in_year meanings.inserted.date)

-- the part of a date, and of the hour
abbrev pub part_text : CivilDate → ℕ → DatePart → List ℕ
part_text date hour YearPart = last_digits 4 date.year
part_text date hour ShortYearPart = last_digits 2 date.year
part_text date hour MonthPart = last_digits 2 date.month
part_text date hour MonthNamePart = month_name date.month
part_text date hour DayPart = last_digits 2 date.day
part_text date hour HourPart = last_digits 2 hour

-- what a group stands for, from 1: its part of the ident, or nothing
abbrev pub group_text : List (Option (List ℕ)) → ℕ → List ℕ
group_text groups group = unwrap_or (slice_index_or groups (group - 1) None) []

-- a day of the month, if a month may have it
abbrev pub possible_day : ℕ → Option ℕ
possible_day day = if nat_le 1 day && nat_le day 31 then Some day else None

-- the day of the month that one or two digits say
abbrev pub day_said : List ℕ → Option ℕ
day_said [] = None
day_said (digit ∷ []) = if is_ascii_digit digit then possible_day (digit - 48) else None
day_said (tens ∷ digit ∷ []) = if is_ascii_digit tens && is_ascii_digit digit then possible_day (10 * (tens - 48) + (digit - 48)) else None
day_said (_ ∷ _ ∷ _ ∷ _) = None

-- the date that a text stands for: the day that it says, nearest to that date
abbrev pub date_said : CivilDate → List ℕ → Option CivilDate
date_said today text = option_and_then (nearest today) (day_said text)

-- what a piece of a word becomes, or the group that is no day
abbrev pub piece_text : Meanings → Piece → Result (List ℕ) ℕ
piece_text meanings (Byte byte) = Ok (byte ∷ [])
piece_text meanings (Group group) = Ok (group_text meanings.groups group)
piece_text meanings (MarkPiece mark) = Ok (mark_text meanings mark)
piece_text meanings (Date group part) =
    ok_or (option_map (λ date. part_text date meanings.inserted.hour part)
    (date_said meanings.inserted.date (group_text meanings.groups group))) group

-- one in front of the others, or the first fault
abbrev pub in_front : {A B : Type 0} → (A → B → B) → Result A ℕ → Result B ℕ → Result B ℕ
in_front join (Err group) later = Err group
in_front join (Ok first) (Err group) = Err group
in_front join (Ok first) (Ok later) = Ok (join first later)

-- what pieces become, joined
unfoldable pub pieces_text : Meanings → List Piece → Result (List ℕ) ℕ
pieces_text meanings [] = Ok []
pieces_text meanings (piece ∷ pieces) = in_front (λ text later. text ++ later) (piece_text meanings piece) (pieces_text meanings pieces)

-- what a word becomes
abbrev pub word_text : Meanings → List ℕ → Result (List ℕ) ℕ
word_text meanings word = pieces_text meanings (pieces_of word)

-- what words become, or the first group that is no day
unfoldable pub words_text : Meanings → List (List ℕ) → Result (List (List ℕ)) ℕ
words_text meanings [] = Ok []
words_text meanings (word ∷ words) = in_front (λ text later. text ∷ later) (word_text meanings word) (words_text meanings words)
