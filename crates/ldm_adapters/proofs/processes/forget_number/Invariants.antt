use Rattle.std.proofs.Common.{◌≢◌, ℕ, ◌<◌, Some}
use Rattle.std.specs.Prelude.{slice_index_or}
use Rattle.ldm_adapters.specs.declared.processes.Process.{Process}
use Rattle.ldm_adapters.proofs.processes.forget_number.Given as goal

abbrev pub invariant-loop-process : goal.invariant-loop-process
invariant-loop-process l = (k : ℕ) (d : Process) → k < l.process-index → (slice_index_or l.running k d).number ≢ Some l.number
