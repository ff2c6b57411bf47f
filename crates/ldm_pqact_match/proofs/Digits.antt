-- The last digits of a number.
use Rattle.std.proofs.Common.{◌≡◌, ℕ, zero, suc, ◌+◌, ◌-◌, ◌/◌, ◌%◌, ◌<◌, List, [], ◌∷◌, ◌++◌, refl, sym, ap, ◌∙◌, append_assoc, append-nil, arith}
use Rattle.ldm_pqact_match.specs.Substitution.{last_digits}

pub no_digits : (text : List ℕ) (count number : ℕ) → count ≡ 0 → text ≡ text ++ last_digits count number
unfolding last_digits
no_digits text count number e = rw e (sym (append-nil text))

last_apart : (count number : ℕ) → 0 < count → last_digits count number ≡ last_digits (count - 1) (number / 10) ++ (48 + number % 10) ∷ []
unfolding last_digits
last_apart zero number h = absurd (omega arith)
last_apart (suc count) number h = let less : suc count - 1 ≡ count = omega arith in rw less refl

pub one_more_digit : (text before after : List ℕ) (count number : ℕ) → 0 < count → before ≡ text ++ last_digits (count - 1) (number / 10) →
    after ≡ before ++ (48 + number % 10) ∷ [] → after ≡ text ++ last_digits count number
one_more_digit text before after count number h first last =
    last ∙ ap (λ (b : List ℕ). b ++ (48 + number % 10) ∷ []) first ∙ append_assoc text _ _ ∙ ap (λ (d : List ℕ). text ++ d) (sym (last_apart count number h))
