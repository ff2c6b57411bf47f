-- Dates and times of day that are put together.
use Rattle.std.proofs.Common.{◌≡◌, ℕ, ◌/◌, ◌%◌, List, [], ◌∷◌, ◌++◌, take, drop, refl, ap, ◌∙◌, append_assoc, arith}
use Rattle.ldm_pqact_match.specs.Dates.{CivilDate, date_of_day, moment_of}
use Rattle.ldm_pqact_match.specs.Substitution.{last_digits}
use Rattle.ldm_stats.specs.Report.{date_text as digits_of_date}
use Rattle.ldm_watch.specs.Instants.{date_text, instant_text, time_text}

-- the digits of an hour, with what stands between them
pub dated : (date : CivilDate) (hour : ℕ) (digits : List ℕ) → digits ≡ digits_of_date date ++ last_digits 2 hour
    → ((((((take 4 digits ++ 45 ∷ []) ++ take 2 (drop 4 digits)) ++ 45 ∷ []) ++ take 2 (drop 6 digits)) ++ 84 ∷ []) ++ take 2 (drop 8 digits))
    ≡ date_text date ++ 84 ∷ last_digits 2 hour
unfolding last_digits
dated date hour digits is = rw is refl

joined : (date hour minute second micros : List ℕ)
    → (((((((date ++ 84 ∷ hour) ++ 58 ∷ []) ++ minute) ++ 58 ∷ []) ++ second) ++ 46 ∷ []) ++ micros) ++ 90 ∷ []
    ≡ date ++ 84 ∷ (hour ++ 58 ∷ minute ++ 58 ∷ second) ++ 46 ∷ micros ++ 90 ∷ []
joined date hour minute second micros =
    let start = date ++ (84 ∷ hour) in
    ap (λ (l : List ℕ). ((((l ++ (58 ∷ [])) ++ second) ++ (46 ∷ [])) ++ micros) ++ (90 ∷ [])) (append_assoc start (58 ∷ []) minute)
    ∙ ap (λ (l : List ℕ). ((l ++ (46 ∷ [])) ++ micros) ++ (90 ∷ [])) (append_assoc (start ++ (58 ∷ minute)) (58 ∷ []) second)
    ∙ ap (λ (l : List ℕ). l ++ (90 ∷ [])) (append_assoc ((start ++ (58 ∷ minute)) ++ (58 ∷ second)) (46 ∷ []) micros)
    ∙ ap (λ (l : List ℕ). (l ++ (46 ∷ micros)) ++ (90 ∷ []))
    (ap (λ (l : List ℕ). l ++ (58 ∷ second)) (append_assoc date (84 ∷ hour) (58 ∷ minute)) ∙ append_assoc date (84 ∷ (hour ++ (58 ∷ minute))) (58 ∷ second))

-- the hour of an instant, and what is behind it
pub timed : (micros hour : ℕ) → hour ≡ micros / 1000000 / 3600
    → (((((((date_text (date_of_day (hour / 24)) ++ 84 ∷ last_digits 2 (hour % 24)) ++ 58 ∷ []) ++ last_digits 2 (micros / 1000000 % 3600 / 60)) ++ 58 ∷ [])
    ++ last_digits 2 (micros / 1000000 % 60)) ++ 46 ∷ []) ++ last_digits 6 (micros % 1000000)) ++ 90 ∷ []
    ≡ instant_text micros
unfolding instant_text
timed micros hour is =
    let day : hour / 24 ≡ micros / 1000000 / 86400 = omega (arith, is) in
    let of_day : hour % 24 ≡ micros / 1000000 % 86400 / 3600 = omega (arith, is) in
    rw (day, of_day)
    (joined (date_text (moment_of micros).date) (last_digits 2 (moment_of micros).hour) (last_digits 2 (moment_of micros).minute)
    (last_digits 2 (moment_of micros).second) (last_digits 6 (micros % 1000000)))
