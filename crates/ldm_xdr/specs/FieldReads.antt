-- What calls say that read fields.
use Rattle.std.specs.Prelude.{◌≡◌, ℕ, List, Result, Ok, Err, MatchResult}

-- a call answers what reading gives, seen so, and leaves what reading leaves; or it answers why reading stopped
abbrev pub Gives : {X A E : Type 0} → (X → A) → Result X E → Result (A × List ℕ) E → List ℕ → Type 0
Gives seen result reading left = MatchResult result (λ x. reading ≡ Ok (seen x, left)) (λ bad. reading ≡ Err bad)
