-- The products that a feeding hands to who asked, in order, and how each goes.
use Rattle.std.specs.Prelude.{ℕ, List, [], ◌∷◌, ◌++◌, Option, Some}
use Rattle.std.specs.List.{flat_map}
use Rattle.ldm_upstream.specs.Turn.{Given, Handling, Turn, Lost, Gave, Quiet, Alive}
use Rattle.ldm_upstream.specs.Turn as handling
use Rattle.ldm_upstream.specs.Feeding.{Last, GoesOn, Stopped, Unanswered, Feeding}

pub data Way : Type 0 where
  -- with its body, in one message
  Whole : Way
  -- it is announced, and the reply declines it
  Declined : Way
  -- it is announced, the reply asks for it, and its body goes in blocks
  InBlocks : Way
  -- it is announced, and no reply comes
  Announced : Way

pub record Handed : Type 0 where
  pub given : Given
  pub way : Way

-- one product that goes so
abbrev pub going : Given → Way → List Handed
going given way = record { given = given; way = way } ∷ []

-- what is not due does not go
abbrev pub handed_by : Given → Handling → List Handed
handed_by given handling.Passed = []
handed_by given (handling.Whole at) = going given Whole
handed_by given (handling.Declined at) = going given Declined
handed_by given (handling.InBlocks at blocks_at) = going given InBlocks

abbrev pub handed_in : Turn → List Handed
handed_in (Lost count first last) = []
handed_in (Gave given by) = handed_by given by
handed_in (Quiet end now) = []
handed_in (Alive end now at) = []

abbrev pub handed_last : Last → List Handed
handed_last GoesOn = []
handed_last (Stopped end) = []
handed_last (Unanswered given at) = going given Announced

-- the products that are due of those that the cursor was given
abbrev pub handed : Feeding → List Handed
handed feeding = flat_map handed_in feeding.turns ++ handed_last feeding.last

-- the signature of the last of these products, or what was before them
abbrev pub last_of : Option (List ℕ) → List Handed → Option (List ℕ)
last_of before [] = before
last_of before (product ∷ behind) = last_of (Some product.given.product.info.signature) behind
