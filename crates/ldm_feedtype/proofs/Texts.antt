-- The words of a text.
use Rattle.std.proofs.Common.{◌≡◌, ℕ, suc, ◌+◌, List, [], ◌∷◌, take, drop, length, drop-drop, true, false, cond, refl, sym, ap, ◌∙◌, arith, inl, inr}
use Rattle.std.proofs.lemmas.Bool.{cases_Bool, cond-true, cond-false}
use Rattle.ldm_feedtype.specs.Parts.{Part, Word, Mark, is_blank, is_word_byte, begins_in_word, longer, parts, word_length}
use Rattle.ldm_feedtype.specs.Reading.{State, step, reading, and_then}
use Rattle.ldm_feedtype.specs.Kept.{read_on}

-- no byte of a word is a blank
pub word_byte-solid : (byte : ℕ) → is_word_byte byte ≡ true → is_blank byte ≡ false
word_byte-solid byte word = grind (arith)

parts-in_word : (at byte : ℕ) (rest : List ℕ) → is_word_byte byte ≡ true
    → parts at (byte ∷ rest)
    ≡ cond (begins_in_word rest) (longer at byte (parts (at + 1) rest)) (Word at (byte ∷ []) ∷ parts (at + 1) rest)
parts-in_word at byte rest word =
    cond-false (is_blank byte) (parts (at + 1) rest) _ (word_byte-solid byte word)
    ∙ cond-true (is_word_byte byte) _ (Mark at byte ∷ parts (at + 1) rest) word

word_length-none : (text : List ℕ) → begins_in_word text ≡ false → word_length text ≡ 0
word_length-none [] none = refl
word_length-none (byte ∷ rest) none = cond-false (is_word_byte byte) _ 0 none

word_length-some : (text : List ℕ) → (word_length text ≡ 0 → ⊥) → begins_in_word text ≡ true
word_length-some text some =
    elim (cases_Bool (begins_in_word text)) [ inl begins ↦ begins | inr none ↦ absurd (some (word_length-none text none)) ]

-- the word of so many bytes at a place, and the parts behind it
abbrev pub cut : ℕ → List ℕ → ℕ → List Part
cut at text n = Word at (take n text) ∷ parts (at + n) (drop n text)

-- a text that begins with a word byte has a word there, as long as word bytes follow one another
pub parts-word : (at : ℕ) (text : List ℕ) → begins_in_word text ≡ true → parts at text ≡ cut at text (word_length text)
parts-word at [] begins = cc begins
parts-word at (byte ∷ rest) begins =
    let n = word_length rest in
    let long : word_length (byte ∷ rest) ≡ suc n = cond-true (is_word_byte byte) (suc n) 0 begins in
    parts-in_word at byte rest begins ∙ elim (cases_Bool (begins_in_word rest)) [
      | inl more ↦
          cond-true (begins_in_word rest) _ _ more
          ∙ ap (longer at byte) (parts-word (at + 1) rest more)
          ∙ ap (λ (place : ℕ). Word at (byte ∷ take n rest) ∷ parts place (drop n rest)) (omega arith)
          ∙ ap (cut at (byte ∷ rest)) (sym long)
      | inr last ↦
          cond-false (begins_in_word rest) _ _ last
          ∙ ap (cut at (byte ∷ rest)) (ap suc (sym (word_length-none rest last)) ∙ sym long)
    ]

-- a word that begins at a place of a text is read next
pub read_on-word : (text : List ℕ) (at n m : ℕ) (state : State) → n ≡ word_length (drop at text) → (n ≡ 0 → ⊥) → m ≡ n
    → read_on text at state ≡ and_then (step (Word at (take m (drop at text))) state) (read_on text (at + n))
read_on-word text at n m state is some same =
    let word : parts at (drop at text) ≡ cut at (drop at text) n =
    parts-word at (drop at text) (word_length-some (drop at text) (λ none. some (is ∙ none)))
    ∙ ap (cut at (drop at text)) (sym is) in
    ap (λ (ps : List Part). reading (length text) ps state) word
    ∙ ap (λ (k : ℕ). and_then (step (Word at (take k (drop at text))) state) (reading (length text) (parts (at + n) (drop n (drop at text))))) (sym same)
    ∙ ap (λ (behind : List ℕ). and_then (step (Word at (take m (drop at text))) state) (reading (length text) (parts (at + n) behind))) (drop-drop n at text)
