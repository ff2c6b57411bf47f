-- The lines of warnings and those of faults.
use Rattle.std.proofs.Common.{◌≡◌, ◌∙◌, ℕ, inl, inr, List, [], ◌∷◌, ◌++◌, codes, decimal, map, ap, sym, append_assoc, arith}
use Rattle.std.proofs.lemmas.List.{append_cancel_left}
use Rattle.ldm_conf.specs.declared.fault.ConfKind.{ConfKind}
use Rattle.ldm_conf.specs.declared.fault.ConfKind.TheVariants as conf
use Rattle.ldm_pqact_conf.specs.declared.fault.PqactKind.{PqactKind}
use Rattle.ldm_pqact_conf.specs.declared.fault.PqactKind.TheVariants as pqact
use Rattle.ldm_command_files.specs.Words.{conf_words, pqact_words}
use Rattle.ldm_outside.specs.Putting.{shown}
use Rattle.ldm_check.specs.Law.{IsFaultWords, IsNoFault}
use Rattle.ldm_check.specs.Lines.{fault_line, file_line, text_behind}
use Rattle.ldm_check.specs.Warnings.{Warning, NoTool, OfLine, Missing, concern_words, line_warning, named_by}

abbrev first_byte : List ℕ → ℕ
first_byte [] = 0
first_byte (byte ∷ bytes) = byte

-- no words of a fault begin with a `w` (119), as a warning does
other_conf : (kind : ConfKind) (a b : List ℕ) → 119 ∷ a ≡ conf_words kind ++ b → ⊥
other_conf conf.Keyword a b is = let first : 119 ≡ 110 = ap first_byte is in omega (arith, first)
other_conf conf.Fields a b is = let first : 119 ≡ 116 = ap first_byte is in omega (arith, first)
other_conf conf.Feed a b is = let first : 119 ≡ 110 = ap first_byte is in omega (arith, first)
other_conf conf.Pattern a b is = let first : 119 ≡ 97 = ap first_byte is in omega (arith, first)
other_conf conf.Depth a b is = let first : 119 ≡ 97 = ap first_byte is in omega (arith, first)
other_conf conf.Store a b is = let first : 119 ≡ 116 = ap first_byte is in omega (arith, first)
other_conf conf.Long a b is = let first : 119 ≡ 116 = ap first_byte is in omega (arith, first)
other_conf conf.OutOfMemory a b is = let first : 119 ≡ 110 = ap first_byte is in omega (arith, first)

other_pqact : (kind : PqactKind) (a b : List ℕ) → 119 ∷ a ≡ pqact_words kind ++ b → ⊥
other_pqact pqact.Fields a b is = let first : 119 ≡ 116 = ap first_byte is in omega (arith, first)
other_pqact pqact.Feed a b is = let first : 119 ≡ 110 = ap first_byte is in omega (arith, first)
other_pqact pqact.Pattern a b is = let first : 119 ≡ 97 = ap first_byte is in omega (arith, first)
other_pqact pqact.Action a b is = let first : 119 ≡ 110 = ap first_byte is in omega (arith, first)
other_pqact pqact.Option a b is = let first : 119 ≡ 110 = ap first_byte is in omega (arith, first)
other_pqact pqact.OutOfMemory a b is = let first : 119 ≡ 110 = ap first_byte is in omega (arith, first)

other : (words a b : List ℕ) → IsFaultWords words → 119 ∷ a ≡ words ++ b → ⊥
other words a b (inl conf) is = other_conf conf.0 a b (rw conf.1 at is)
other words a b (inr pqact) is = other_pqact pqact.0 a b (rw pqact.1 at is)

-- behind the same place
behind : (place words a b : List ℕ) → IsFaultWords words → place ++ 119 ∷ a ≡ place ++ (words ++ b) → ⊥
behind place words a b fault is = other words a b fault (append_cancel_left place (119 ∷ a) (words ++ b) is)

abbrev place_of : List ℕ → ℕ → List ℕ
place_of path number = map shown path ++ codes ":" ++ decimal number ++ codes ": "

-- a line that begins with such a place and a `w`
at_place : (path : List ℕ) (number : ℕ) (a line words text : List ℕ) → line ≡ place_of path number ++ 119 ∷ a → IsFaultWords words
    → line ≡ fault_line path number words text → ⊥
at_place path number a line words text begins fault is =
    let place = place_of path number in
    let right : place ++ words ++ text_behind text ++ 10 ∷ [] ≡ place ++ (words ++ (text_behind text ++ 10 ∷ [])) =
    append_assoc (place ++ words) (text_behind text) (10 ∷ []) ∙ append_assoc place words (text_behind text ++ 10 ∷ []) in
    behind place words a (text_behind text ++ 10 ∷ []) fault (sym begins ∙ is ∙ right)

at_file : (path a words : List ℕ) → IsFaultWords words → map shown path ++ codes ": " ++ 119 ∷ a ++ 10 ∷ [] ≡ file_line path words → ⊥
at_file path a words fault is =
    let place = map shown path ++ codes ": " in
    behind place words (a ++ 10 ∷ []) (10 ∷ []) fault (sym (append_assoc place (119 ∷ a) (10 ∷ [])) ∙ is ∙ append_assoc place words (10 ∷ []))

-- a text of three parts behind a place
three : (place a b c : List ℕ) → place ++ a ++ b ++ c ≡ place ++ (a ++ (b ++ c))
three place a b c = append_assoc (place ++ a) b c ∙ append_assoc place a (b ++ c)

pub no_fault : (warning : Warning) → IsNoFault warning
no_fault (NoTool path) = λ words fault is. at_file path (codes "arning: no ALLOW line lets a tool of this machine (127.0.0.1) in") words fault is
no_fault (OfLine path number concern) = λ words text fault is.
    at_place path number (codes "arning: " ++ (concern_words concern ++ 10 ∷ [])) (line_warning path number (concern_words concern)) words text
    (three (place_of path number) (codes "warning: ") (concern_words concern) (10 ∷ [])) fault is
no_fault (Missing path number program reason) = λ words text fault is.
    let named = map shown (named_by program reason) in
    at_place path number (codes "arning: the program is not there, or cannot be read: " ++ (named ++ 10 ∷ []))
    (place_of path number ++ codes "warning: the program is not there, or cannot be read: " ++ named ++ 10 ∷ []) words text
    (three (place_of path number) (codes "warning: the program is not there, or cannot be read: ") named (10 ∷ [])) fault is
