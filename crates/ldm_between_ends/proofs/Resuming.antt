-- Sessions that go on where those before them were cut offer numbers that rise.
use Rattle.std.proofs.Common.{◌≡◌, ℕ, suc, ◌≤◌, List, [], ◌∷◌, Option, Some, None, refl, subst, arith}
use Rattle.std.specs.List.Sorted.{IsStrictlyIncreasing}
use Rattle.ldm_model.proofs.Ascending.{IsAmong, Rises, IsStrictlyIncreasing-from_rises}
use Rattle.ldm_between_ends.specs.Session.{Session, IsSession}
use Rattle.ldm_between_ends.specs.Offered.{offered}
use Rattle.ldm_between_ends.specs.Resumed.{last_number, GoesOnBehind, AreResumed, all_offered}
use Rattle.ldm_between_ends.proofs.Numbers.{past, Rises-between, Rises-append}
use Rattle.ldm_between_ends.proofs.Behind.{QueueLaws, offered-rises, offered-above}

-- the least number that may come behind one
abbrev low_of : Option ℕ → ℕ
low_of None = 0
low_of (Some n) = suc n

past-last : (last : Option ℕ) (ns : List ℕ) → past (low_of last) ns ≡ low_of (last_number last ns)
past-last last [] = refl
past-last last (n ∷ ns) = past-last (Some n) ns

module _ (laws : QueueLaws) where
  above-last : (last : Option ℕ) (s : Session) → IsSession s → GoesOnBehind last s → (m : ℕ) → IsAmong (offered s) m → low_of last ≤ m
  above-last None s is goes_on m there = omega arith
  above-last (Some n) s is goes_on m there = omega (arith, offered-above laws s is n goes_on m there)

  rises-on : (last : Option ℕ) (s : Session) → IsSession s → GoesOnBehind last s → Rises (low_of last) (offered s) (low_of (last_number last (offered s)))
  rises-on last s is goes_on =
      let rises = offered-rises laws s is in
      subst (Rises (low_of last) (offered s)) (past-last last (offered s))
      (Rises-between (low_of last) 0 rises.0 (offered s) rises.1 (above-last last s is goes_on))

  all-rise : (last : Option ℕ) (sessions : List Session) → AreResumed last sessions → (high : ℕ) × Rises (low_of last) (all_offered sessions) high
  all-rise last [] are = (low_of last, omega arith)
  all-rise last (s ∷ later) are =
      let rest = all-rise (last_number last (offered s)) later are.2 in
      (rest.0, Rises-append (low_of last) (low_of (last_number last (offered s))) rest.0 (offered s) (all_offered later) (rises-on last s are.0 are.1) rest.1)

  pub resumed-rise : (sessions : List Session) → AreResumed None sessions → IsStrictlyIncreasing (all_offered sessions)
  resumed-rise sessions are = let rises = all-rise None sessions are in IsStrictlyIncreasing-from_rises 0 rises.0 (all_offered sessions) rises.1
