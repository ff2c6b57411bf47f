-- The words of a text.
use Rattle.std.specs.Prelude.{◌≡◌, ℕ, ◌<◌, Bool, true, false, ◌==◌, if◌then◌else◌, List, [], ◌∷◌, length}
use Rattle.ldm_text.specs.declared.words.Comments.{Comments}
use Rattle.ldm_text.specs.declared.words.Comments.TheVariants.{Hash, Never}
use Rattle.ldm_text.specs.Blanks.{begins_in_blank, begins_with, is_blank}

-- a text that has comments begins with one (35 is `#`)
abbrev pub begins_in_comment : Comments → List ℕ → Bool
begins_in_comment Hash text = begins_with 35 text
begins_in_comment Never text = false

-- a word may end in front of a blank, a tab or the end
abbrev pub may_end : List ℕ → Bool
may_end [] = true
may_end (byte ∷ bytes) = is_blank byte

-- the words of a text up to the first quote that is wrong, and whether no quote is
pub record Words : Type 0 where
  pub words : List (List ℕ)
  pub sound : Bool

-- no word is left, or the next one has a wrong quote
abbrev pub none_left : Bool → Words
none_left sound = record { words = []; sound = sound }

-- a word in front of others
abbrev pub with_first : List ℕ → Words → Words
with_first word others = record { words = word ∷ others.words; sound = others.sound }

-- one byte more in front of the first of these words, if there is one
abbrev pub onto_word : ℕ → List (List ℕ) → List (List ℕ)
onto_word byte [] = []
onto_word byte (word ∷ words) = (byte ∷ word) ∷ words

abbrev pub longer : ℕ → Words → Words
longer byte read = record { words = onto_word byte read.words; sound = read.sound }

pub data Place : Type 0 where
  -- between words
  Between : Place
  -- in a word without quotes
  Plain : Place
  -- in a word that began with a double quote
  Quoted : Place

-- The words of what is left of a text, from that place on: in a word, the first is the rest of that word. A comment begins
-- only where a word would begin, and goes to the end. A quote (34) is wrong where it is left open, or where the word
-- cannot end behind its second quote.
unfoldable pub words_from : Comments → Place → List ℕ → Words
words_from comments Between [] = none_left true
words_from comments Between (byte ∷ bytes) =
    if is_blank byte then words_from comments Between bytes
    else if begins_in_comment comments (byte ∷ bytes) then none_left true
    else if byte == 34 then words_from comments Quoted bytes
    else longer byte (words_from comments Plain bytes)
words_from comments Plain [] = with_first [] (none_left true)
words_from comments Plain (byte ∷ bytes) =
    if is_blank byte then with_first [] (words_from comments Between bytes) else longer byte (words_from comments Plain bytes)
words_from comments Quoted [] = none_left false
words_from comments Quoted (byte ∷ bytes) =
    if byte == 34 then (if may_end bytes then with_first [] (words_from comments Between bytes) else none_left false)
    else longer byte (words_from comments Quoted bytes)

-- the words of a text
abbrev pub words_of : Comments → List ℕ → Words
words_of comments text = words_from comments Between text

-- a text begins with neither a blank nor a comment
pub record BeginsInWord (comments : Comments) (text : List ℕ) : Type 0 where
  pub no_blank : begins_in_blank text ≡ false
  pub no_comment : begins_in_comment comments text ≡ false

-- what is left of a text, from that place on, is a word and what is behind it
pub record HasWord (comments : Comments) (place : Place) (text word behind : List ℕ) : Type 0 where
  pub words : words_from comments place text ≡ with_first word (words_of comments behind)
  pub shorter : length behind < length text
