-- Numbers and times rise with each product.
use Rattle.std.proofs.Common.{◌≡◌, ℕ, ◌+◌, ◌<◌, ◌≤◌, List, [], ◌∷◌, ◌++◌, Bool, Option, Some, None, ap, arith}
use Rattle.std.specs.Prelude.{filter}
use Rattle.std.specs.List.{All}
use Rattle.std.proofs.lemmas.List.Elements.{All-nil, All-same, All-weaker, All-filter, All-push}
use Rattle.ldm_book.specs.View.{Kept}
use Rattle.ldm_book.specs.Making.{IsTimely}
use Rattle.ldm_book.specs.Sound.{IsTimed}

-- numbered below one number, and not later than a time
abbrev IsBefore : ℕ → ℕ → Kept → Type 0
IsBefore admitted last k = (k.number < admitted) × (k.time ≤ last)

-- numbers are below the end
pub timed_below : (last : Option ℕ) (admitted : ℕ) (rows : List Kept) → IsTimed last admitted rows → All (λ (k : Kept). k.number < admitted) rows
timed_below None admitted rows timed = All-same (λ (k : Kept). k.number < admitted) rows [] timed.1 (All-nil (λ (k : Kept). k.number < admitted))
timed_below (Some last) admitted rows timed = All-weaker (IsBefore admitted last) (λ (k : Kept). k.number < admitted) (λ k before. before.0) rows timed.1

pub below_more : (a b : ℕ) (rows : List Kept) → a ≤ b → All (λ (k : Kept). k.number < a) rows → All (λ (k : Kept). k.number < b) rows
below_more a b rows h all = All-weaker (λ (k : Kept). k.number < a) (λ (k : Kept). k.number < b) (λ k below. omega arith) rows all

-- fewer products are timed too
pub timed_filter : (test : Kept → Bool) (last : Option ℕ) (admitted : ℕ) (rows : List Kept) → IsTimed last admitted rows → IsTimed last admitted (filter test rows)
timed_filter test None admitted rows timed = (timed.0, ap (filter test) timed.1)
timed_filter test (Some last) admitted rows timed = (timed.0, All-filter test (IsBefore admitted last) rows timed.1)

-- all were inserted before a time that comes after the last one
pub timed_later : (last : Option ℕ) (admitted time : ℕ) (rows : List Kept) → IsTimed last admitted rows → IsTimely last time → All (λ (k : Kept). (k.number < admitted) × (k.time < time)) rows
timed_later None admitted time rows timed timely = All-same (λ (k : Kept). (k.number < admitted) × (k.time < time)) rows [] timed.1 (All-nil (λ (k : Kept). (k.number < admitted) × (k.time < time)))
timed_later (Some last) admitted time rows timed timely =
    All-weaker (IsBefore admitted last) (λ (k : Kept). (k.number < admitted) × (k.time < time)) (λ k before. (before.0, omega (arith, before.1))) rows timed.1

-- one product more
pub timed_push : (last : Option ℕ) (admitted time : ℕ) (rows : List Kept) (new : Kept) → IsTimed last admitted rows → IsTimely last time → new.number ≡ admitted → new.time ≡ time
    → IsTimed (Some time) (admitted + 1) (rows ++ new ∷ [])
timed_push last admitted time rows new timed timely number is =
    let P = IsBefore (admitted + 1) time in
    (few last timed timely, All-push P rows new (before last timed timely) (omega (arith, number), omega (arith, is)))
  where
    few : (last : Option ℕ) → IsTimed last admitted rows → IsTimely last time → admitted + 1 ≤ time + 1
    few None timed timely = omega (arith, timed.0)
    few (Some last) timed timely = omega (arith, timed.0)

    before : (last : Option ℕ) → IsTimed last admitted rows → IsTimely last time → All (IsBefore (admitted + 1) time) rows
    before None timed timely = All-same (IsBefore (admitted + 1) time) rows [] timed.1 (All-nil (IsBefore (admitted + 1) time))
    before (Some last) timed timely = All-weaker (IsBefore admitted last) (IsBefore (admitted + 1) time) (λ k b. (omega (arith, b.0), omega (arith, b.1))) rows timed.1
