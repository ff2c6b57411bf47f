-- What the contracts inside this crate speak of.
use Rattle.std.specs.Prelude.{◌≡◌, ℕ, ◌≤◌, List, ◌∷◌, ◌++◌, length, drop, Result, Ok, Err}
use Rattle.ldm_pqact_match.specs.declared.forms.Form.{Form}
use Rattle.ldm_pqact_match.specs.declared.substitute.WordFault.{WordFault}
use Rattle.ldm_pqact_match.specs.declared.substitute.WordFault.TheVariants.{NoDay, OutOfMemory}
use Rattle.ldm_pqact_match.specs.Forms.{pieces_of}

-- what stands at the front of a text: its first piece, and behind it the others
pub record HasFront (text : List ℕ) (form : Form) : Type 0 where
  pub pieces : pieces_of text ≡ form.piece ∷ pieces_of (drop form.length text)
  pub takes : 1 ≤ form.length
  pub inside : form.length ≤ length text

-- why nothing is put in place: the first group that is no day, or want of memory, of which nothing is said
abbrev pub IsStopOf : {A : Type 0} → Result A ℕ → WordFault → Type 0
IsStopOf meaning (NoDay group) = meaning ≡ Err group
IsStopOf meaning OutOfMemory = Unit {0}

-- bytes that stand already, in front of those that come
abbrev pub behind : List ℕ → Result (List ℕ) ℕ → Result (List ℕ) ℕ
behind bytes (Ok later) = Ok (bytes ++ later)
behind bytes (Err group) = Err group

-- and words
abbrev pub behind_words : List (List ℕ) → Result (List (List ℕ)) ℕ → Result (List (List ℕ)) ℕ
behind_words words (Ok later) = Ok (words ++ later)
behind_words words (Err group) = Err group

-- a text became longer by what that means
abbrev pub Appends : Result (List ℕ) ℕ → List ℕ → List ℕ → Type 0
Appends meaning old new = (text : List ℕ) × (meaning ≡ Ok text) × (new ≡ old ++ text)
