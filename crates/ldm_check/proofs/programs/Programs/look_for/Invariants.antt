use Rattle.std.proofs.Common.{◌≤◌, List}
use Rattle.ldm_outside.specs.Store.{StoreRecord}
use Rattle.ldm_check.specs.ConfFaults.{Asked}
use Rattle.ldm_check.specs.Programs.{AsksFor, LooksFor}
use Rattle.ldm_check.proofs.programs.Programs.look_for.Given as goal

abbrev pub invariant-loop-one : goal.invariant-loop-one
invariant-loop-one g l = record {
  asked : (end : StoreRecord) (more : List Asked) → AsksFor more (g.F.Store.tells l.store) end → LooksFor (g.F.Store.tells l.initial.store) end;
  faults_kept : (g.F.Store.tells l.initial.store).faults ≤ (g.F.Store.tells l.store).faults;
}
