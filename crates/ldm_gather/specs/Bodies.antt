-- The bodies that a whole gathering wrote.
use Rattle.std.specs.Prelude.{◌≡◌, ◌≤◌, ℕ, List, ◌++◌}
use Rattle.std.specs.List.{flat_map}
use Rattle.ldm_outside.specs.Io.{SinkRecord, Takes}
use Rattle.ldm_shared.specs.Givens.{Given}
use Rattle.ldm_gather.specs.Stepping.{IsFront}

-- the bodies of products, one behind the other, with nothing between them
abbrev pub bodies_of : List Given → List ℕ
bodies_of givens = flat_map (λ (given : Given). given.product.body) givens

-- The sink took the bodies of these products, whole and in order; and of the one in hand, if there is one, a front.
pub record WritesBodies (givens in_hand : List Given) (old new : SinkRecord) : Type 0 where
  pub bytes : List ℕ
  pub is_front : IsFront bytes (bodies_of in_hand)
  pub written : Takes old (bodies_of givens ++ bytes) new
  pub kept : old.faults ≤ new.faults
