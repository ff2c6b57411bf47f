-- Lemmas for callers that go through a text: bytes that pass at its front, and the words of what is left.
use Rattle.std.proofs.Common.{◌≡◌, ◌∙◌, ◌==◌, Bool, true, false, not, zero, suc, ℕ, List, [], ◌∷◌, ◌++◌, length, drop, ap, refl, sym, arith, append-nil}
use Rattle.std.proofs.lemmas.Bool.{eqb-true}
use Rattle.std.specs.List.{position_or_len, prefix_len}
use Rattle.ldm_text.specs.declared.words.Comments.{Comments}
use Rattle.ldm_text.specs.Blanks.{begins_in_blank, is_blank}
use Rattle.ldm_text.specs.Words.{Words, none_left, words_from, words_of}

-- how many pass from the front on, by whether the first passes
pub passes : {X : Type 0} (p : X → Bool) (x : X) (xs : List X) → p x ≡ true → prefix_len p (x ∷ xs) ≡ suc (prefix_len p xs)
passes p x xs h = rw h (omega arith)

pub stops : {X : Type 0} (p : X → Bool) (x : X) (xs : List X) → p x ≡ false → prefix_len p (x ∷ xs) ≡ zero
stops p x xs h = rw h refl

-- the first place of what passes, by whether the first passes
pub is_here : {X : Type 0} (p : X → Bool) (x : X) (xs : List X) → p x ≡ true → position_or_len p (x ∷ xs) ≡ zero
is_here p x xs h = stops (λ y. not (p y)) x xs (ap not h)

pub is_behind : {X : Type 0} (p : X → Bool) (x : X) (xs : List X) → p x ≡ false → position_or_len p (x ∷ xs) ≡ suc (position_or_len p xs)
is_behind p x xs h = passes (λ y. not (p y)) x xs (ap not h)

-- behind the blanks that a text begins with no blank stands
pub no_blank : (text : List ℕ) → begins_in_blank (drop (prefix_len is_blank text) text) ≡ false
no_blank [] = refl
no_blank (byte ∷ bytes) =
    elim (is_blank byte) as (λ b. is_blank byte ≡ b → begins_in_blank (drop (prefix_len is_blank (byte ∷ bytes)) (byte ∷ bytes)) ≡ false) [
      | true ↦ λ is. rw (passes is_blank byte bytes is) (no_blank bytes)
      | false ↦ λ is. rw (stops is_blank byte bytes is) is
    ] refl

-- an empty text has no words
pub no_word : (comments : Comments) (text : List ℕ) → (length text == 0) ≡ true → words_of comments text ≡ none_left true
unfolding words_from
no_word comments [] none = refl
no_word comments (byte ∷ bytes) none = absurd (let zero : length (byte ∷ bytes) ≡ 0 = eqb-true (length (byte ∷ bytes)) 0 none in omega arith)

-- words that were read, in front of those of what is left
abbrev pub with_words : List (List ℕ) → Words → Words
with_words words others = record { words = words ++ others.words; sound = others.sound }

module _ (comments : Comments) (words : List (List ℕ)) (rest text : List ℕ) (so_far : with_words words (words_of comments rest) ≡ words_of comments text) where
  -- where nothing is left, they are all, and no quote is wrong
  pub all_read : (length rest == 0) ≡ true → words_of comments text ≡ record { words = words; sound = true }
  all_read none =
      sym so_far
      ∙ ap (with_words words) (no_word comments rest none)
      ∙ ap (λ all. record { words = all; sound = true }) (append-nil words)

  -- or the quote of the next one is wrong
  pub wrong_quote : words_of comments rest ≡ none_left false → (words_of comments text).sound ≡ false
  wrong_quote wrong = ap (λ (w : Words). w.sound) (sym so_far) ∙ ap (λ (w : Words). w.sound) wrong
