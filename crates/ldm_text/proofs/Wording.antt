-- The words of a text, one after another.
use Rattle.std.proofs.Common.{◌≡◌, ℕ, ◌+◌, ◌<◌, ◌==◌, Bool, true, false, cond, List, [], ◌∷◌, length, take, drop, refl, sym, ap, ◌∙◌, arith, length-drop, suc}
use Rattle.std.proofs.lemmas.Bool.{eqb-true}
use Rattle.std.specs.List.{position_or_len, prefix_len}
use Rattle.ldm_text.specs.declared.words.Comments.{Comments}
use Rattle.ldm_text.specs.declared.words.Comments.TheVariants.{Hash, Never}
use Rattle.ldm_text.specs.Blanks.{begins_with, is_blank}
use Rattle.ldm_text.specs.Words.{Between, Plain, Quoted, Words, BeginsInWord, HasWord, begins_in_comment, words_from, words_of, may_end, longer, none_left, with_first}
use Rattle.ldm_text.proofs.CallerLemmas.{passes, stops, is_here, is_behind, no_blank}

-- blanks in front of words are no words
pub skip : (comments : Comments) (text : List ℕ) → words_of comments (drop (prefix_len is_blank text) text) ≡ words_of comments text
unfolding words_from
skip comments [] = refl
skip comments (byte ∷ bytes) =
    elim (is_blank byte) as (λ b. is_blank byte ≡ b → words_of comments (drop (prefix_len is_blank (byte ∷ bytes)) (byte ∷ bytes)) ≡ words_of comments (byte ∷ bytes)) [
      | true ↦ λ is. rw (passes is_blank byte bytes is) (skip comments bytes ∙ sym (rw is refl))
      | false ↦ λ is. rw (stops is_blank byte bytes is) refl
    ] refl

-- behind them a word begins, or a comment
pub begins : (comments : Comments) (text : List ℕ) → begins_in_comment comments (drop (prefix_len is_blank text) text) ≡ false →
    BeginsInWord comments (drop (prefix_len is_blank text) text)
begins comments text h = record { no_blank = no_blank text; no_comment = h }

-- an empty text begins with neither a blank nor a comment
pub nothing_begins : (comments : Comments) → BeginsInWord comments []
nothing_begins Hash = record { no_blank = refl; no_comment = refl }
nothing_begins Never = record { no_blank = refl; no_comment = refl }

-- a comment has no words
pub comment : (comments : Comments) (text : List ℕ) → begins_in_comment comments text ≡ true → words_of comments text ≡ none_left true
unfolding words_from
comment Never text h = absurd cc
comment Hash [] h = refl
comment Hash (byte ∷ bytes) h = let is : byte ≡ 35 = eqb-true byte 35 h in rw is refl

pub nothing : (comments : Comments) → words_of comments [] ≡ none_left true
unfolding words_from
nothing comments = refl

-- a word without quotes ends at the first blank
plain : (comments : Comments) (text : List ℕ) →
    words_from comments Plain text ≡ with_first (take (position_or_len is_blank text) text) (words_of comments (drop (position_or_len is_blank text) text))
unfolding words_from
plain comments [] = refl
plain comments (byte ∷ bytes) =
    elim (is_blank byte) as (λ b. is_blank byte ≡ b →
    words_from comments Plain (byte ∷ bytes) ≡ with_first (take (position_or_len is_blank (byte ∷ bytes)) (byte ∷ bytes)) (words_of comments (drop (position_or_len is_blank (byte ∷ bytes)) (byte ∷ bytes)))) [
      | true ↦ λ is. rw (is_here is_blank byte bytes is) (rw is refl)
      | false ↦ λ is. rw (is_behind is_blank byte bytes is) (rw is (ap (longer byte) (plain comments bytes)))
    ] refl

abbrev is_quote : ℕ → Bool
is_quote byte = byte == 34

-- a quote that is left open
pub open_quote : (comments : Comments) (text : List ℕ) → position_or_len is_quote text ≡ length text → words_from comments Quoted text ≡ none_left false
unfolding words_from
open_quote comments [] h = refl
open_quote comments (byte ∷ bytes) h =
    elim (is_quote byte) as (λ b. is_quote byte ≡ b → words_from comments Quoted (byte ∷ bytes) ≡ none_left false) [
      | true ↦ λ is. absurd (omega (arith, h, is_here is_quote byte bytes is))
      | false ↦ λ is.
          let later : position_or_len is_quote bytes ≡ length bytes = omega (arith, h, is_behind is_quote byte bytes is) in
          rw is (ap (longer byte) (open_quote comments bytes later))
    ] refl

-- a word that is to end there
abbrev if_ends : Comments → List ℕ → List ℕ → Words
if_ends comments word text = cond (may_end text) (with_first word (words_of comments text)) (none_left false)

longer_ends : (byte : ℕ) (word : List ℕ) (others : Words) (b : Bool) →
    longer byte (cond b (with_first word others) (none_left false)) ≡ cond b (with_first (byte ∷ word) others) (none_left false)
longer_ends byte word others true = refl
longer_ends byte word others false = refl

-- a quoted word ends at the second quote
quoted : (comments : Comments) (text : List ℕ) → position_or_len is_quote text < length text →
    words_from comments Quoted text ≡ if_ends comments (take (position_or_len is_quote text) text) (drop (position_or_len is_quote text + 1) text)
unfolding words_from
quoted comments [] h = absurd (omega arith)
quoted comments (byte ∷ bytes) h =
    elim (is_quote byte) as (λ b. is_quote byte ≡ b →
    words_from comments Quoted (byte ∷ bytes) ≡ if_ends comments (take (position_or_len is_quote (byte ∷ bytes)) (byte ∷ bytes)) (drop (position_or_len is_quote (byte ∷ bytes) + 1) (byte ∷ bytes))) [
      | true ↦ λ is. rw (is_here is_quote byte bytes is) (rw is refl)
      | false ↦ λ is.
          let later : position_or_len is_quote bytes < length bytes = omega (arith, h, is_behind is_quote byte bytes is) in
          let one : suc (position_or_len is_quote bytes) + 1 ≡ suc (position_or_len is_quote bytes + 1) = omega arith in
          rw (is_behind is_quote byte bytes is) (rw one (rw is (ap (longer byte) (quoted comments bytes later) ∙ longer_ends byte _ _ _)))
    ] refl

module _ (comments : Comments) (text : List ℕ) (h : position_or_len is_quote text < length text) where
  -- and is a word where it may end there
  pub closed_quote : may_end (drop (position_or_len is_quote text + 1) text) ≡ true →
      HasWord comments Quoted text (take (position_or_len is_quote text) text) (drop (position_or_len is_quote text + 1) text)
  closed_quote ends = record { words = rw ends at (quoted comments text h); shorter = omega (arith, length-drop {A = ℕ}) }

  pub stuck_quote : may_end (drop (position_or_len is_quote text + 1) text) ≡ false → words_from comments Quoted text ≡ none_left false
  stuck_quote stuck = rw stuck at (quoted comments text h)

-- a quote begins no comment
quote_begins : (comments : Comments) (bytes : List ℕ) → begins_in_comment comments (34 ∷ bytes) ≡ false
quote_begins Hash bytes = refl
quote_begins Never bytes = refl

-- a text that begins with a quote
pub begins_quoted : (comments : Comments) (text : List ℕ) → begins_with 34 text ≡ true → words_of comments text ≡ words_from comments Quoted (drop 1 text)
unfolding words_from
begins_quoted comments [] h = absurd cc
begins_quoted comments (byte ∷ bytes) h = let is : byte ≡ 34 = eqb-true byte 34 h in rw (is, quote_begins comments bytes) refl

-- a text that begins with a word without quotes
begins_plain : (comments : Comments) (text : List ℕ) → 0 < length text → BeginsInWord comments text → begins_with 34 text ≡ false →
    words_of comments text ≡ words_from comments Plain text
unfolding words_from
begins_plain comments [] some in_word h = absurd (omega arith)
begins_plain comments (byte ∷ bytes) some in_word h =
    let blank : is_blank byte ≡ false = in_word.no_blank in
    rw (blank, in_word.no_comment, h) refl

some_bytes : (comments : Comments) (text : List ℕ) → 0 < length text → BeginsInWord comments text → 0 < position_or_len is_blank text
some_bytes comments [] some in_word = absurd (omega arith)
some_bytes comments (byte ∷ bytes) some in_word = omega (arith, is_behind is_blank byte bytes in_word.no_blank)

pub plain_word : (comments : Comments) (text : List ℕ) → 0 < length text → BeginsInWord comments text → begins_with 34 text ≡ false →
    HasWord comments Between text (take (position_or_len is_blank text) text) (drop (position_or_len is_blank text) text)
plain_word comments text some in_word h = record {
  words = begins_plain comments text some in_word h ∙ plain comments text;
  shorter = let moves = some_bytes comments text some in_word in omega (arith, length-drop {A = ℕ});
}

-- a quoted word at the front of a text, by what stands behind its first quote
pub front_quoted : (comments : Comments) (text word behind : List ℕ) → begins_with 34 text ≡ true → HasWord comments Quoted (drop 1 text) word behind →
    HasWord comments Between text word behind
front_quoted comments text word behind h found = record {
  words = begins_quoted comments text h ∙ found.words;
  shorter = let less = found.shorter in omega (arith, length-drop {A = ℕ});
}
