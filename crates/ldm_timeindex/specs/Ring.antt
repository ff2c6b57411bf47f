-- A ring: a table whose entries go on at its front where it ends.
use Rattle.std.specs.Prelude.{ℕ, ◌+◌, ◌-◌, ◌<◌, ◌≤◌, ◌^◌, if◌then◌else◌, nat_lt, List, ◌++◌, drop, take}
use Rattle.ldm_timeindex.specs.declared.entry.Entry.{Entry}

-- how many entries there is room for, and those that are in
pub record Held : Type 0 where
  pub room : ℕ
  pub entries : List Entry

-- a table as it is read from one place on, all round
abbrev pub turned : ℕ → List Entry → List Entry
turned first table = drop first table ++ take first table

-- where the entry stands in the table that so many stand before
abbrev pub place_of : ℕ → ℕ → ℕ → ℕ
place_of first room index = if nat_lt (first + index) room then first + index else first + index - room

-- The first entry stands in the table or right behind its end, where its front is meant. No more entries are in than
-- there is room for.
pub record IsKept (room first count : ℕ) : Type 0 where
  pub inside : first ≤ room
  pub fits : count ≤ room
  pub small : room < 2 ^ 32
