-- The log lines of entries that do nothing.
use Rattle.std.specs.Prelude.{ℕ, List, [], ◌∷◌, ◌++◌, codes}
use Rattle.std.specs.List.{flat_map}
use Rattle.ldm_answers.specs.Answer.{blank_field, blank_number}
use Rattle.ldm_answers.specs.Texts.{spelled}
use Rattle.ldm_pqact_match.specs.declared.chosen.Chosen.{Chosen}
use Rattle.ldm_pqact_match.specs.declared.chosen.Decision.{Decision}
use Rattle.ldm_pqact_match.specs.declared.chosen.Decision.TheVariants.{Act, NoDate, NotText}

-- a word, an ident, a number and a newline
abbrev pub note_line : List ℕ → List ℕ → ℕ → List ℕ
note_line word ident number = word ++ blank_field (spelled ident) ++ blank_number number ++ 10 ∷ []

-- `nodate IDENT GROUP` where a group is no day, and `nottext IDENT WORD` where a word is no text
abbrev pub note_of : List ℕ → Decision → List ℕ
note_of ident (Act action) = []
note_of ident (NoDate group) = note_line (codes "nodate") ident group
note_of ident (NotText word) = note_line (codes "nottext") ident word

-- the lines of what was chosen for a product, in order
abbrev pub notes_of : List ℕ → List Chosen → List ℕ
notes_of ident chosen = flat_map (λ (it : Chosen). note_of ident it.decision) chosen
