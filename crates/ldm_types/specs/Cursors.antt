-- What is kept of the cursors of a queue.
use Rattle.std.specs.Prelude.{ℕ, Bool, false, ◌==◌, List, Option, Some, None}

-- losses that were not told yet: how many, and the least and the greatest number
pub record Losses : Type 0 where
  pub count : ℕ
  pub least : ℕ
  pub greatest : ℕ

pub record KeptCursor : Type 0 where
  -- whose it is
  pub actor : ℕ
  -- a set of feedtypes, as a number whose bits are the members
  pub feed : ℕ
  -- the least number that it may still be given
  pub position : ℕ
  -- the number of the product that it holds
  pub held : Option ℕ
  -- None where all losses were told
  pub untold : Option Losses
  -- how many products it was given
  pub given : ℕ
  -- how many losses it had, told or not
  pub lost : ℕ

-- each place is empty or has a cursor
abbrev pub Places : Type 0
Places = List (Option KeptCursor)

-- whether there is a number, and it is that one
abbrev pub is_number : ℕ → Option ℕ → Bool
is_number n None = false
is_number n (Some m) = m == n
