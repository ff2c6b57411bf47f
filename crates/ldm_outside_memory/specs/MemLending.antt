-- What the doors and dials in memory keep and count of the links that they hand out.
use Rattle.std.specs.Prelude.{ℕ, ◌==◌, if◌then◌else◌, Bool, true, false, List, [], ◌∷◌, ◌++◌, map, Some}
use Rattle.ldm_outside.specs.Lending.{LinkBack, LendingRecord}
use Rattle.ldm_outside.specs.Count.{raised}
use Rattle.ldm_outside_memory.specs.MemLink.{LinkState}

-- what a link in memory was through
abbrev pub link_was : LinkState → LinkBack
link_was s = record { passed = s.passed; ends = s.ends; faults = s.faults }

-- a count of links after one more, whose own count is this
abbrev pub counted : ℕ → ℕ → ℕ
counted of_link count = if of_link == 0 then count else raised count

-- the links that were given back, and whether one is out
pub record LendingState : Type 0 where
  pub back : List LinkState
  -- how many of them had ended
  pub ended : ℕ
  -- how many of them had failed
  pub failed : ℕ
  pub out : Bool

-- no link is out, and none was
abbrev pub nothing_lent : LendingState
nothing_lent = record { back = []; ended = 0; failed = 0; out = false }

-- a link is out from now on
abbrev pub lent : LendingState → LendingState
lent s = record s { out = true }

-- the links after the one that was out was given back
abbrev pub after_back : LinkState → LendingState → LendingState
after_back link s = record {
  back = s.back ++ link ∷ [];
  ended = counted link.ends s.ended;
  failed = counted link.faults s.failed;
  out = false;
}

-- what is told of them
abbrev pub told_by_lending : LendingState → LendingRecord
told_by_lending s = record { out = s.out; ended = s.ended; failed = s.failed; back = Some (map link_was s.back) }
