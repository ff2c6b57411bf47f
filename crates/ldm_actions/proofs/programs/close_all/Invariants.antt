use Rattle.std.proofs.Common.{length}
use Rattle.ldm_actions.specs.Programs.{program_side}
use Rattle.ldm_actions.proofs.ProgramSteps.{IsClosing}
use Rattle.ldm_actions.proofs.programs.close_all.Given as goal

abbrev pub invariant-loop-programs : goal.invariant-loop-programs
invariant-loop-programs g l =
    let tells = g.L.Launcher.tells in
    IsClosing (program_side l.initial.programs (tells l.initial.launcher)) (program_side l.programs (tells l.launcher))

abbrev pub decreases-loop-programs : goal.decreases-loop-programs
decreases-loop-programs g l = length l.programs
