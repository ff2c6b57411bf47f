use Rattle.ldm_actions.specs.Kept.{number_under}
use Rattle.ldm_actions.proofs.KeptLemmas.{found_some}
use Rattle.ldm_actions.proofs.ProgramSteps.{uses_raised}
use Rattle.ldm_actions.proofs.programs.use_program.Goals as goal

pub returns-then-raise : goal.returns-then-raise
returns-then-raise g c =
    let kept = c.args.programs.now in
    let command = c.args.command.now in
    let found = found_some (number_under command kept) c.raise.result c.raise.ensures.found c.if-raise.true in
    uses_raised c.args.program.now command found.0 kept c.raise.new.self (g.L.Launcher.tells c.args.launcher.now) c.requires.its_own found.1
    c.raise.ensures.raised c.requires.keeps
