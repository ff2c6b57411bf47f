-- How a mirror began.
use Rattle.std.specs.Prelude.{ℕ, [], None}
use Rattle.ldm_types.specs.declared.class.ClassSpec.{ClassSpec}
use Rattle.ldm_shared.specs.Passes.{PassView}
use Rattle.ldm_intake.specs.Opening.{requesting}
use Rattle.ldm_intake.specs.TakesRecord.{Standing}
use Rattle.ldm_downstream.specs.Receives.{at_first}

pub record Beginning : Type 0 where
  -- where the receiver stood, and its pass: the request is owed to the peer, and nothing is logged
  pub first : Standing
  -- the moment at which every piece comes
  pub now : ℕ
  -- which reference to the pass it was lent
  pub name : ℕ

-- a beginning of nothing: each caller names its own
abbrev no_class : ClassSpec
no_class = record { from = 0; to = 0; specs = record { items = [] } }

abbrev no_pass : PassView
no_pass = record { queue = None; arena = 0; slots = 0; passes = 0; actor = 0; seen = [] }

abbrev pub no_beginning : Beginning
no_beginning = record { first = at_first (requesting no_class None 0) no_pass; now = 0; name = 0 }
