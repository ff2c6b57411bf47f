use Rattle.std.proofs.Common.{◌≤◌, [], ◌∷◌, refl, arith}
use Rattle.ldm_image.specs.Fault.{Magic, Version, Gate, Zeros, Arena, Slots, Admitted, Last, Count, Bytes, Surplus}
use Rattle.ldm_image.proofs.examples.worked_examples.Goals as goal

pub returns-clause-lawful : goal.returns-clause-lawful
returns-clause-lawful c = record {
  arena = (omega arith, omega arith, refl);
  filled = refl;
  slots = (omega arith, omega arith);
  last = tt;
  few = omega arith;
  timed = (refl, refl);
  rising = tt;
  times = tt;
  newest = tt;
  placed = tt;
  stored = tt;
  apart = tt;
  differ = tt;
  no_cursor = refl;
  no_reservation = refl;
}

pub returns-clause-no_bytes : goal.returns-clause-no_bytes
returns-clause-no_bytes c = record {
  before = [];
  field = Magic;
  behind = Version ∷ Gate ∷ Zeros ∷ Arena ∷ Slots ∷ Admitted ∷ Last ∷ Count ∷ Bytes ∷ Surplus ∷ [];
  all = refl;
  lawful = tt;
  not_lawful = λ is. cc is;
  at_it = refl;
}

pub returns-clause-cut_short : goal.returns-clause-cut_short
returns-clause-cut_short c = record {
  before = Magic ∷ Version ∷ Gate ∷ Zeros ∷ [];
  field = Arena;
  behind = Slots ∷ Admitted ∷ Last ∷ Count ∷ Bytes ∷ Surplus ∷ [];
  all = refl;
  lawful = (refl, (refl, (refl, (refl, tt))));
  not_lawful = λ is. (let short : 16 ≤ 12 = is.0 in omega arith);
  at_it = refl;
}

pub returns-clause-surplus : goal.returns-clause-surplus
returns-clause-surplus c = record {
  before = Magic ∷ Version ∷ Gate ∷ Zeros ∷ Arena ∷ Slots ∷ Admitted ∷ Last ∷ Count ∷ Bytes ∷ [];
  field = Surplus;
  behind = [];
  all = refl;
  lawful = (
    refl,
    (
      refl,
      (
        refl,
        (
          refl,
          (
            (omega arith, omega arith, omega arith, refl),
            (
              (omega arith, omega arith, omega arith),
              (
                omega arith,
                ((omega arith, omega arith, omega arith, (λ is. is, λ is. is)), ((omega arith, omega arith), (omega arith, tt))),
              ),
            ),
          ),
        ),
      ),
    ),
  );
  not_lawful = λ is. (let short : 113 ≤ 112 = is in omega arith);
  at_it = refl;
}
