-- Digits of hours, and lines that are put together.
use Rattle.std.proofs.Common.{◌≡◌, ℕ, ◌/◌, ◌%◌, List, [], ◌∷◌, ◌++◌, refl, ap, ◌∙◌, append_assoc, arith}
use Rattle.ldm_pqact_match.specs.Substitution.{last_digits}

-- the century and the year in it are the four digits of a year
four_digits : (year : ℕ) → last_digits 2 (year / 100) ++ last_digits 2 (year % 100) ≡ last_digits 4 year
unfolding last_digits
four_digits year =
    let a : year / 100 / 10 % 10 ≡ year / 10 / 10 / 10 % 10 = omega arith in
    let b : year / 100 % 10 ≡ year / 10 / 10 % 10 = omega arith in
    let c : year % 100 / 10 % 10 ≡ year / 10 % 10 = omega arith in
    let d : year % 100 % 10 ≡ year % 10 = omega arith in
    rw (a, b, c, d) refl

pub dated : (year month day hour : ℕ) →
    last_digits 2 (year / 100) ++ last_digits 2 (year % 100) ++ last_digits 2 month ++ last_digits 2 day ++ last_digits 2 hour
    ≡ last_digits 4 year ++ last_digits 2 month ++ last_digits 2 day ++ last_digits 2 hour
dated year month day hour =
    ap (λ (l : List ℕ). l ++ last_digits 2 month ++ last_digits 2 day ++ last_digits 2 hour) (four_digits year)

pub line_put : (hour feed origin count bytes latency : List ℕ) →
    hour ++ (32 ∷ []) ++ feed ++ (32 ∷ []) ++ origin ++ count ++ bytes ++ latency ++ (10 ∷ [])
    ≡ hour ++ (32 ∷ feed) ++ (32 ∷ origin) ++ count ++ bytes ++ latency ++ (10 ∷ [])
line_put hour feed origin count bytes latency =
    ap (λ (l : List ℕ). l ++ (32 ∷ []) ++ origin ++ count ++ bytes ++ latency ++ (10 ∷ [])) (append_assoc hour (32 ∷ []) feed)
    ∙ ap (λ (l : List ℕ). l ++ count ++ bytes ++ latency ++ (10 ∷ [])) (append_assoc (hour ++ (32 ∷ feed)) (32 ∷ []) origin)
