-- Where a cursor begins at an instant.
use Rattle.std.proofs.Common.{◌≡◌, ℕ, zero, suc, ◌-◌, ◌<◌, ap, arith}
use Rattle.ldm_model.specs.declared.event.Start.TheVariants as start
use Rattle.ldm_sender.specs.Opening.{from_instant}

pub from_oldest : (n : ℕ) → n ≡ 0 → from_instant n ≡ start.Oldest
from_oldest n none = ap from_instant none

pub from_later : (n : ℕ) → 0 < n → from_instant n ≡ start.After (n - 1)
from_later zero some = absurd (omega arith)
from_later (suc n) some = ap (λ (m : ℕ). start.After m) (omega arith)

pub ruleset starts = (from_oldest, from_later)
