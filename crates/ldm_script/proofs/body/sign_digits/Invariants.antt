use Rattle.std.proofs.Common.{◌≡◌, ℕ, ◌-◌, ◌%◌, ◌≤◌, List, length, drop, Some}
use Rattle.md5.specs.Md5.{Holds}
use Rattle.ldm_script.specs.Bodies.{digits_of}
use Rattle.ldm_script.proofs.Hexadecimal.{joined}
use Rattle.ldm_script.proofs.body.sign_digits.Given as goal

abbrev pub invariant-loop-at : goal.invariant-loop-at
invariant-loop-at l = record {
  within : l.at ≤ length l.digits;
  even : l.at % 2 ≡ 0;
  so_far : (done : List ℕ) × Holds l.hasher done × (joined (Some done) (digits_of (drop l.at l.digits)) ≡ digits_of l.digits);
}

abbrev pub decreases-loop-at : goal.decreases-loop-at
decreases-loop-at l = length l.digits - l.at
