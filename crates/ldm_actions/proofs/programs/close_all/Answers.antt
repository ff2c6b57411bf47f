use Rattle.ldm_actions.specs.Programs.{program_side}
use Rattle.std.proofs.lemmas.Result.{err_from_is_err_and}
use Rattle.ldm_actions.proofs.ProgramSteps.{closing_fails, closing_goes_on, fewer}
use Rattle.ldm_actions.proofs.programs.close_all.Goals as goal

pub loop-programs-smaller : goal.loop-programs-smaller
loop-programs-smaller g c =
    let tells = g.L.Launcher.tells in
    fewer (program_side c.loop-programs.programs (tells c.loop-programs.launcher)) (program_side c.end_oldest.new.programs (tells c.end_oldest.new.launcher))
    (rw c.len.ensures at c.loop-programs-test.true) c.in_ok-end_oldest.ensures

pub loop-programs-preserved : goal.loop-programs-preserved
loop-programs-preserved g c =
    let tells = g.L.Launcher.tells in
    closing_goes_on (program_side c.args.programs.now (tells c.args.launcher.now)) (program_side c.loop-programs.programs (tells c.loop-programs.launcher))
    (program_side c.end_oldest.new.programs (tells c.end_oldest.new.launcher)) (rw c.len.ensures at c.loop-programs-test.true) c.loop-programs.invariant
    c.in_ok-end_oldest.ensures

pub returns-in_err-end_oldest : goal.returns-in_err-end_oldest
returns-in_err-end_oldest g c =
    let tells = g.L.Launcher.tells in
    let p = err_from_is_err_and c.from_residual.result c.from_residual.ensures.1 in
    rw p.1
    (closing_fails (program_side c.args.programs.now (tells c.args.launcher.now)) (program_side c.loop-programs.programs (tells c.loop-programs.launcher))
    (program_side c.end_oldest.new.programs (tells c.end_oldest.new.launcher)) (rw c.len.ensures at c.loop-programs-test.true) c.loop-programs.invariant
    c.in_err-end_oldest.ensures)
