-- What contracts see of a link in memory, and what one call of it does.
use Rattle.std.specs.Prelude.{◌≡◌, ℕ, ◌-◌, ◌^◌, Bool, true, false, List, [], ◌∷◌, length, take, drop, min, max, Some}
use Rattle.ldm_outside.specs.declared.io.Got.{Got}
use Rattle.ldm_outside.specs.declared.io.Got.TheVariants.{Bytes, End, Failed}
use Rattle.ldm_outside.specs.declared.io.Put.{Put}
use Rattle.ldm_outside.specs.declared.io.Put.TheVariants as put
use Rattle.ldm_outside_memory.specs.declared.mem_link.LinkScript.{LinkScript}
use Rattle.ldm_outside.specs.declared.link.Passed.{Passed}
use Rattle.ldm_outside.specs.declared.link.Way.TheVariants as way
use Rattle.ldm_outside.specs.Link.{LinkRecord, then_all, then_piece}
use Rattle.ldm_outside_memory.specs.Memory.{Plan, next_fails, after_call, first_plan, with_most}
use Rattle.ldm_outside.specs.Count.{raised}

-- a link that does as its script says
pub record LinkState : Type 0 where
  -- what passed, in order
  pub passed : List Passed
  -- the bytes that it has left to give
  pub left : List ℕ
  -- the most bytes that the next calls of `recv` give
  pub pieces : List ℕ
  -- whether an end follows behind the bytes
  pub has_end : Bool
  pub ends : ℕ
  pub faults : ℕ
  pub closed : Bool
  -- the limit is on sending
  pub plan : Plan

-- the link at its beginning
abbrev pub first_link : LinkScript → LinkState
first_link script = record {
  passed = [];
  left = script.bytes.items;
  pieces = script.pieces.items;
  has_end = script.has_end;
  ends = 0;
  faults = 0;
  closed = false;
  plan = with_most script.most_sent (first_plan script.failing.items);
}

-- the most bytes that the next call of `recv` gives: at least one, and no limit behind the last piece
abbrev pub next_piece : List ℕ → ℕ
next_piece [] = 2 ^ 64 - 1
next_piece (most ∷ _) = max most 1

-- What one call of `recv` did, with a buffer of that room. Without memory for what passed a call fails too.
abbrev pub RecvsAsPlanned : Got → ℕ → LinkState → LinkState → Type 0
-- it gives all that it may
RecvsAsPlanned (Bytes n) room old new =
    (next_fails old.plan ≡ false)
    × (n ≡ min (min (length old.left) (next_piece old.pieces)) room)
    × (new ≡ record old {
      passed = then_piece (take n old.left) old.passed;
      left = drop n old.left;
      pieces = drop 1 old.pieces;
      plan = after_call old.plan;
    })
RecvsAsPlanned End room old new =
    (next_fails old.plan ≡ false) × (old.left ≡ []) × (old.has_end ≡ true)
    × (new ≡ record old { ends = raised old.ends; plan = after_call old.plan })
RecvsAsPlanned Failed room old new =
    new ≡ record old { faults = raised old.faults; plan = after_call old.plan }

-- What one call of `send` did. Without memory for the bytes a call fails too.
abbrev pub SendsAsPlanned : Put → List ℕ → LinkState → LinkState → Type 0
SendsAsPlanned (put.Took n) piece old new =
    (next_fails old.plan ≡ false)
    × (n ≡ min (length piece) old.plan.most)
    × (new ≡ record old { passed = then_all way.Sent (take n piece) old.passed; plan = after_call old.plan })
SendsAsPlanned put.Failed piece old new =
    new ≡ record old { faults = raised old.faults; plan = after_call old.plan }

-- what a link in memory tells
abbrev pub told_by_link : LinkState → LinkRecord
told_by_link s = record {
  passed = Some s.passed;
  left = Some s.left;
  ends = s.ends;
  faults = s.faults;
  closed = s.closed;
}
