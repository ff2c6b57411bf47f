-- What a door or a dial tells of the links that it hands out, one at a time, and takes back.
use Rattle.std.specs.Prelude.{◌≡◌, ℕ, ◌<◌, Bool, true, false, List, [], ◌∷◌, ◌++◌, Option, IfSome, option_and_then}
use Rattle.std.specs.Option.{option_map}
use Rattle.ldm_outside.specs.declared.link.Passed.{Passed}
use Rattle.ldm_outside.specs.Count.{Rose}
use Rattle.ldm_outside.specs.Link.{LinkRecord}

-- What a link was through, from its beginning to the moment that it was given back.
pub record LinkBack : Type 0 where
  -- what passed, in order
  pub passed : List Passed
  -- how often it answered that it is at its end
  pub ends : ℕ
  -- how often it failed
  pub faults : ℕ

-- The links of a door or a dial at a moment.
pub record LendingRecord : Type 0 where
  -- whether a link is out: one was handed out, and none was given back since
  pub out : Bool
  -- how many links were given back that had ended
  pub ended : ℕ
  -- how many links were given back that had failed
  pub failed : ℕ
  -- the links that were given back, in order, where they are told
  pub back : Option (List LinkBack)

-- what is told of a link of which this passed
abbrev pub link_back : LinkRecord → List Passed → LinkBack
link_back link passed = record { passed = passed; ends = link.ends; faults = link.faults }

-- The links that were given back, with this one behind them. With a link that does not tell what passed, none is told
-- from then on.
abbrev pub with_back : LinkRecord → Option (List LinkBack) → Option (List LinkBack)
with_back link back = option_and_then (λ passed. option_map (λ links. links ++ link_back link passed ∷ []) back) link.passed

-- A count of links rose where this link's own count is above 0, and else was kept.
pub record CountsBack (of_link old new : ℕ) : Type 0 where
  pub kept : of_link ≡ 0 → new ≡ old
  pub rose : 0 < of_link → Rose old new

-- a link is out from now on, and nothing else changed
abbrev pub with_out : LendingRecord → LendingRecord
with_out links = record links { out = true }

-- A link that told this was given back.
pub record TakesBack (link : LinkRecord) (old new : LendingRecord) : Type 0 where
  pub ended : CountsBack link.ends old.ended new.ended
  pub failed : CountsBack link.faults old.failed new.failed
  pub out : new.out ≡ false
  pub back : new.back ≡ with_back link old.back

-- No link is out, and none was.
pub record IsUnlent (links : LendingRecord) : Type 0 where
  pub out : links.out ≡ false
  pub none_ended : links.ended ≡ 0
  pub none_failed : links.failed ≡ 0
  pub none_back : IfSome links.back (λ back. back ≡ [])
