-- The forms that stand for something in a word of an entry, and how each is spelled.
use Rattle.std.specs.Prelude.{ℕ, zero, suc, ◌+◌, ◌-◌, ◌==◌, ◌&&◌, nat_eq, nat_le, if◌then◌else◌, List, [], ◌∷◌, length, drop, codes, Option, Some, None, unwrap_or}
use Rattle.std.specs.List.{find, starts_with}
use Rattle.std.specs.Option.{option_and_then, option_map, option_or}
use Rattle.ldm_pqact_match.specs.declared.forms.Mark.{Mark}
use Rattle.ldm_pqact_match.specs.declared.forms.Mark.TheVariants.{Sequence, Percent, Year, ShortYear, Month, Day, Hour, Minute, Second, DayOfYear}
use Rattle.ldm_pqact_match.specs.declared.forms.DatePart.{DatePart}
use Rattle.ldm_pqact_match.specs.declared.forms.DatePart.TheVariants.{Year as YearPart, ShortYear as ShortYearPart, Month as MonthPart, MonthName as MonthNamePart, Day as DayPart, Hour as HourPart}
use Rattle.ldm_pqact_match.specs.declared.forms.Piece.{Piece}
use Rattle.ldm_pqact_match.specs.declared.forms.Piece.TheVariants.{Byte, Group, Date, Mark as MarkPiece}
use Rattle.ldm_pqact_match.specs.declared.forms.Form.{Form}

-- forms without a group
abbrev pub mark_spelling : Mark → List ℕ
mark_spelling Sequence = codes "(seq)"
mark_spelling Percent = codes "%%"
mark_spelling Year = codes "%Y"
mark_spelling ShortYear = codes "%y"
mark_spelling Month = codes "%m"
mark_spelling Day = codes "%d"
mark_spelling Hour = codes "%H"
mark_spelling Minute = codes "%M"
mark_spelling Second = codes "%S"
mark_spelling DayOfYear = codes "%j"

abbrev pub marks : List Mark
marks = Sequence ∷ Percent ∷ Year ∷ ShortYear ∷ Month ∷ Day ∷ Hour ∷ Minute ∷ Second ∷ DayOfYear ∷ []

-- what a form with a date has behind its group
abbrev pub part_spelling : DatePart → List ℕ
part_spelling YearPart = codes ":yyyy)"
part_spelling ShortYearPart = codes ":yy)"
part_spelling MonthPart = codes ":mm)"
part_spelling MonthNamePart = codes ":mmm)"
part_spelling DayPart = codes ":dd)"
part_spelling HourPart = codes ":hh)"

abbrev pub parts : List DatePart
parts = YearPart ∷ ShortYearPart ∷ MonthPart ∷ MonthNamePart ∷ DayPart ∷ HourPart ∷ []

-- the mark that a text begins with
unfoldable pub mark_at : List ℕ → Option Mark
mark_at text = find (λ mark. starts_with nat_eq text (mark_spelling mark)) marks

-- the part of a date that a text begins with
unfoldable pub part_at : List ℕ → Option DatePart
part_at text = find (λ part. starts_with nat_eq text (part_spelling part)) parts

-- the number of the group that a text begins with: a backslash (92) and one digit from 1 (49) to 9 (57)
abbrev pub group_at : List ℕ → Option ℕ
group_at [] = None
group_at (byte ∷ []) = None
group_at (byte ∷ digit ∷ bytes) = if byte == 92 && (nat_le 49 digit && nat_le digit 57) then Some (digit - 48) else None

abbrev pub mark_form : Mark → Form
mark_form mark = record { piece = MarkPiece mark; length = length (mark_spelling mark) }

abbrev pub group_form : ℕ → Form
group_form group = record { piece = Group group; length = 2 }

abbrev pub date_form : ℕ → DatePart → Form
date_form group part = record { piece = Date group part; length = 3 + length (part_spelling part) }

-- the form with a date that a text begins with: a parenthesis (40), a group and a part
abbrev pub date_form_at : List ℕ → Option Form
date_form_at [] = None
date_form_at (byte ∷ bytes) =
    if byte == 40 then option_and_then (λ group. option_map (date_form group) (part_at (drop 2 bytes))) (group_at bytes) else None

-- the form that a text begins with
unfoldable pub form_at : List ℕ → Option Form
form_at text = option_or (option_map mark_form (mark_at text)) (option_or (option_map group_form (group_at text)) (date_form_at text))

-- what stands at the front of a text: a form, or a byte that stands for itself
abbrev pub front : ℕ → List ℕ → Form
front byte bytes = unwrap_or (form_at (byte ∷ bytes)) (record { piece = Byte byte; length = 1 })

-- the pieces of a word, from left to right, where so many bytes at its front belong to the piece before
unfoldable pub pieces_behind : ℕ → List ℕ → List Piece
pieces_behind taken [] = []
pieces_behind zero (byte ∷ bytes) =
    let first = front byte bytes in first.piece ∷ pieces_behind (first.length - 1) bytes
pieces_behind (suc taken) (byte ∷ bytes) = pieces_behind taken bytes

-- the pieces of a word
abbrev pub pieces_of : List ℕ → List Piece
pieces_of word = pieces_behind 0 word
