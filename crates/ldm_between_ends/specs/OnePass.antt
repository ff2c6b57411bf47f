-- A queue of one pass: its state is that of what the pass has seen.
use Rattle.std.specs.Prelude.{◌≡◌}
use Rattle.ldm_model.specs.State.{State}
use Rattle.ldm_model.specs.History.{after}
use Rattle.ldm_shared.specs.Passes.{PassView, HasSeen}

abbrev pub state_of : PassView → State
state_of pass = after pass.arena pass.slots pass.seen

pub record IsOnlyPass (pass : PassView) : Type 0 where
  pub passes : pass.passes ≡ 1
  pub actor : pass.actor ≡ 0
  pub has_seen : HasSeen pass
