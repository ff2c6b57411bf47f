-- What follows a block that is filled in.
use Rattle.std.proofs.Common.{◌≡◌, ℕ, ◌+◌, ◌<◌, ◌≤◌, Bool, true, false, [], Some, refl, arith}
use Rattle.std.proofs.lemmas.Bool.{le-leb}
use Rattle.std.proofs.lemmas.Bool.Decides.{nat_tests}
use Rattle.std.specs.Prelude.{if◌then◌else◌, nat_le}
use Rattle.ldm_intake.specs.declared.phase.Pending.{Pending}
use Rattle.ldm_intake.specs.Course.{Course, Comes}
use Rattle.ldm_intake.specs.Products.{commits, filled_in}
use Rattle.ldm_intake.specs.Receiving.{Receiving, left_of}
use Rattle.ldm_intake.specs.Step.{Step, Goes}

first : {X : Type 0} (b : Bool) (x y : X) → b ≡ true → (if b then x else y) ≡ x
first true x y is = refl
first false x y is = absurd (cc is)

second : {X : Type 0} (b : Bool) (x y : X) → b ≡ false → (if b then x else y) ≡ y
second true x y is = absurd (cc is)
second false x y is = refl

lt-leb : (a b : ℕ) → b < a → nat_le a b ≡ false
lt-leb a b lt = grind (arith, nat_tests)

-- one block more came
abbrev pub waits : Receiving → Pending → Receiving
waits s pending = record s { pending = Some (record pending { blocks = pending.blocks + 1 }) }

module _ (s : Receiving) (now : ℕ) (pending : Pending) (len : ℕ) where
  abbrev go_on : Course Step
  go_on = Comes (Goes (waits s pending) [] [])

  -- the last block
  pub last_block : left_of pending ≤ len → filled_in s now pending len ≡ commits s now [] pending.info pending.r
  last_block le = first (nat_le (left_of pending) len) (commits s now [] pending.info pending.r) go_on (le-leb (left_of pending) len le)

  -- more blocks are to come
  pub next_block : len < left_of pending → filled_in s now pending len ≡ Comes (Goes (waits s pending) [] [])
  next_block lt = second (nat_le (left_of pending) len) (commits s now [] pending.info pending.r) go_on (lt-leb (left_of pending) len lt)
