use Rattle.ldm_outside_memory.specs.MemLauncher.{told_by_launcher}
use Rattle.ldm_outside_memory.specs.MemStore.{told_by_store}
use Rattle.ldm_actions.specs.Outputs.{KeepsUnlessSpent, standing}
use Rattle.drive_sessions.proofs.outputs.take_steps.Given as goal

abbrev pub invariant-loop : goal.invariant-loop
invariant-loop l = KeepsUnlessSpent (standing l.outputs (told_by_store l.store) (told_by_launcher l.launcher))
