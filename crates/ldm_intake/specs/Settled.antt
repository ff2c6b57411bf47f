-- Whether a stream may end where a receiving stands.
use Rattle.std.specs.Prelude.{Bool, true, false, ◌&&◌, is_none}
use Rattle.ldm_intake.specs.declared.phase.Phase.{Phase}
use Rattle.ldm_intake.specs.declared.phase.Phase.TheVariants.{Asked, Feeding}
use Rattle.ldm_intake.specs.Receiving.{Receiving}

abbrev pub is_feeding : Phase → Bool
is_feeding (Asked class again) = false
is_feeding Feeding = true

-- no product is pending, and no reply to a request is owed
abbrev pub is_settled : Receiving → Bool
is_settled s = is_none s.pending && is_feeding s.phase
