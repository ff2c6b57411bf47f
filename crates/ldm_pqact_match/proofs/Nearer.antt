-- Which of two days is the nearer.
use Rattle.std.proofs.Common.{◌≡◌, ℕ, ◌<◌, ◌≤◌, true, false, refl, arith}
use Rattle.std.specs.Prelude.{nat_lt, if◌then◌else◌}
use Rattle.std.proofs.lemmas.Bool.Decides.{nat_tests}
use Rattle.ldm_pqact_match.specs.Dates.{CivilDate}

pub second_nearer : (first second : CivilDate) (a b m n : ℕ) → m ≡ a → n ≡ b → m < n → second ≡ (if nat_lt a b then second else first)
second_nearer first second a b m n e f less =
    let test : nat_lt a b ≡ true = grind (arith, nat_tests) in rw test refl

pub first_nearer : (first second : CivilDate) (a b m n : ℕ) → m ≡ a → n ≡ b → n ≤ m → first ≡ (if nat_lt a b then second else first)
first_nearer first second a b m n e f less =
    let test : nat_lt a b ≡ false = grind (arith, nat_tests) in rw test refl
