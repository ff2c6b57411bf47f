-- The fields of an entry.
use Rattle.std.specs.Prelude.{ℕ, Bool, ◌==◌, List, [], ◌∷◌, length, drop, Option, Some, None}
use Rattle.std.specs.List.{prefix_len, before_first}

abbrev pub is_tab : ℕ → Bool
is_tab byte = byte == 9

-- a field ends at the first tab, or with the text
abbrev pub first_field : List ℕ → List ℕ
first_field text = before_first is_tab text

-- a text without the tabs that it begins with
abbrev pub behind_tabs : List ℕ → List ℕ
behind_tabs text = drop (prefix_len is_tab text) text

-- what is left behind the first field and the tabs that end it
abbrev pub behind_field : List ℕ → List ℕ
behind_field text = behind_tabs (drop (length (first_field text)) text)

pub record Fields : Type 0 where
  pub feedtype : List ℕ
  pub pattern : List ℕ
  pub action : List ℕ
  pub arguments : List ℕ

-- by what is left behind the pattern: all that follows the action is the argument text
abbrev pub with_action : List ℕ → List ℕ → List ℕ → Option Fields
with_action feedtype pattern [] = None
with_action feedtype pattern (byte ∷ bytes) = Some (record {
  feedtype = feedtype;
  pattern = pattern;
  action = first_field (byte ∷ bytes);
  arguments = behind_field (byte ∷ bytes);
})

-- by what is left behind the feedtype
abbrev pub with_pattern : List ℕ → List ℕ → Option Fields
with_pattern feedtype [] = None
with_pattern feedtype (byte ∷ bytes) = with_action feedtype (first_field (byte ∷ bytes)) (behind_field (byte ∷ bytes))

-- the fields of an entry, if none is missing
abbrev pub fields_of : List ℕ → Option Fields
fields_of text = with_pattern (first_field text) (behind_field text)
