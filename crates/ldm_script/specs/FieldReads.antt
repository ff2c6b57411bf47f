-- What calls say that read fields.
use Rattle.std.specs.Prelude.{◌≡◌, ℕ, List, length, Some, Result, Ok, Err, MatchResult}
use Rattle.ldm_script.specs.Fields.{Left, first_field, behind_field}

-- a field was taken off what was left of a line: its text, how much was left with it, and what is left behind it
pub record TakesField (old : Left) (text : List ℕ) (left : ℕ) (new : Left) : Type 0 where
  pub rest : List ℕ
  pub old_is : old ≡ Some rest
  pub text_is : text ≡ first_field rest
  pub left_is : left ≡ length rest
  pub new_is : new ≡ behind_field rest

-- a call answers what reading gives, seen so, and leaves what reading leaves; or it answers where reading stopped
abbrev pub Gives : {X A : Type 0} → (X → A) → Result X ℕ → Result (A × Left) ℕ → Left → Type 0
Gives seen result reading left = MatchResult result (λ x. reading ≡ Ok (seen x, left)) (λ bad. reading ≡ Err bad)
