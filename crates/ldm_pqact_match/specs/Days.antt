-- Which groups an entry asks the date of, and which parts of an ident say a day.
use Rattle.std.specs.Prelude.{ℕ, ◌-◌, ◌+◌, ◌*◌, Bool, not, ◌==◌, ◌&&◌, ◌||◌, nat_le, List, [], ◌∷◌, length, Option, Some, None}
use Rattle.std.specs.List.{find, flat_map, fold, list_all}
use Rattle.std.specs.Char.{is_ascii_digit}
use Rattle.ldm_types.specs.Info.{Metadata}
use Rattle.ldm_pqact_conf.specs.Entries.{EntryView}
use Rattle.ldm_pqact_match.specs.declared.forms.Piece.{Piece}
use Rattle.ldm_pqact_match.specs.declared.forms.Piece.TheVariants.{Byte, Group, Date, Mark}
use Rattle.ldm_pqact_match.specs.declared.chosen.Decision.{Decision}
use Rattle.ldm_pqact_match.specs.declared.chosen.Decision.TheVariants.{Act, NoDate, NotText}
use Rattle.ldm_pqact_match.specs.Forms.{pieces_of}
use Rattle.ldm_pqact_match.specs.Matching.{parts_for}
use Rattle.ldm_pqact_match.specs.Substitution.{group_text}

-- the number that decimal digits say
abbrev pub number_said : List ℕ → ℕ
number_said digits = fold (λ number digit. 10 * number + (digit - 48)) 0 digits

-- it is one or two digits, of a value from 1 to 31
abbrev pub is_day : List ℕ → Bool
is_day text =
    (length text == 1 || length text == 2) && (list_all is_ascii_digit text && (nat_le 1 (number_said text) && nat_le (number_said text) 31))

-- the group whose date a form asks for
abbrev pub asked_by : Piece → List ℕ
asked_by (Date group part) = group ∷ []
asked_by (Byte byte) = []
asked_by (Group group) = []
asked_by (Mark mark) = []

-- the groups whose dates the forms of words ask for, in order
abbrev pub groups_asked : List (List ℕ) → List ℕ
groups_asked words = flat_map (λ word. flat_map asked_by (pieces_of word)) words

-- the first group in the order of the words that is asked for a date, and whose part of the ident is no day
abbrev pub first_no_day : Metadata → EntryView → Option ℕ
first_no_day info entry = find (λ group. not (is_day (group_text (parts_for info entry) group))) (groups_asked entry.words)

-- the group of `NoDate`
abbrev pub refused_group : Decision → Option ℕ
refused_group (NoDate group) = Some group
refused_group (Act action) = None
refused_group (NotText word) = None
