-- The words of an argument text.
use Rattle.std.specs.Prelude.{ℕ, if◌then◌else◌, List, Option, Some, None}
use Rattle.ldm_text.specs.Words.{words_of}
use Rattle.ldm_text.specs.declared.words.Comments.TheVariants.{Never}

-- the words of an argument text, which has no comments, if no quote is wrong
abbrev pub arguments_of : List ℕ → Option (List (List ℕ))
arguments_of text = let read = words_of Never text in if read.sound then Some read.words else None
