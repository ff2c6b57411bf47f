use Rattle.std.proofs.Common.{length}
use Rattle.ldm_actions.specs.OpenFiles.{file_side}
use Rattle.ldm_actions.proofs.FileSteps.{IsShutting}
use Rattle.ldm_actions.proofs.open_files.close_all.Given as goal

abbrev pub invariant-loop-files : goal.invariant-loop-files
invariant-loop-files g l =
    let tells = g.F.Store.tells in
    IsShutting (file_side l.initial.files (tells l.initial.store)) (file_side l.files (tells l.store))

abbrev pub decreases-loop-files : goal.decreases-loop-files
decreases-loop-files g l = length l.files
