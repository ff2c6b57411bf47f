-- What a receiver logs: a line for each product that is not wanted, and for each that the queue refuses.
use Rattle.std.specs.Prelude.{ℕ, List, [], ◌∷◌, ◌++◌, codes}
use Rattle.std.specs.List.{flat_map}
use Rattle.ldm_model.specs.declared.event.Reply.{Reply}
use Rattle.ldm_answers.specs.Texts.{spelled}
use Rattle.ldm_answers.specs.Answer.{answer_line}

pub data Note : Type 0 where
  -- a product with that ident is not wanted
  Unwanted : (ident : List ℕ) → Note
  -- the queue refused a product with that ident by this reply
  Refused : (ident : List ℕ) → (reply : Reply) → Note

-- its line, with the newline: `unwanted IDENT`, or `refused IDENT ANSWER`, where the answer is spelled as in a script
unfoldable pub note_line : Note → List ℕ
note_line (Unwanted ident) = codes "unwanted " ++ spelled ident ++ 10 ∷ []
note_line (Refused ident reply) = codes "refused " ++ spelled ident ++ 32 ∷ answer_line reply

-- the lines of notes, in order
abbrev pub note_lines : List Note → List ℕ
note_lines notes = flat_map note_line notes
