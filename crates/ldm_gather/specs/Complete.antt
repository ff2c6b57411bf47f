-- When a gathering comes to its end.
use Rattle.std.specs.Prelude.{◌≡◌, ℕ, List, Some}
use Rattle.ldm_outside.specs.Count.{Rose}
use Rattle.ldm_intake.specs.Receiving.{Receiving}
use Rattle.ldm_downstream.specs.Complete.{Accepts, IsComplete}
use Rattle.ldm_gather.specs.declared.end.GatherEnd.{GatherEnd}
use Rattle.ldm_gather.specs.declared.end.GatherEnd.TheVariants.{Received, Enough, Stopped}
use Rattle.ldm_gather.specs.Scene.{Lent}

-- the stream was received to its end, or the queue can have no call more, or there is no memory; or the handler ended it
abbrev pub IsWhole : GatherEnd → Type 0
IsWhole (Received end) = IsComplete end
IsWhole Enough = Unit {0}
IsWhole Stopped = Unit {0}

-- Where what the link had left to give is a stream that is accepted, whatever the queue replies, and neither link nor log failed, a gathering
-- that ended so is whole.
abbrev pub Completes : {W A B : Type 0} → GatherEnd → Receiving → Lent W A B → Lent W A B → Type 0
Completes end s old new =
    (stream : List ℕ) → old.link.left ≡ Some stream → Accepts s stream → ¬ Rose old.link.faults new.link.faults
    → ¬ Rose old.scene.log.faults new.scene.log.faults → IsWhole end
