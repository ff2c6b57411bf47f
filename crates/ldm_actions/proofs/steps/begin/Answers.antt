use Rattle.std.proofs.Common.{string_bytes, sym, subst}
use Rattle.ldm_actions.specs.declared.action.Action.{Action as Given}
use Rattle.ldm_actions.specs.declared.answers.Begun.TheVariants as answer
use Rattle.ldm_actions.specs.Hands.{action_of}
use Rattle.ldm_actions.specs.Outputs.{BeginsKept, kept_in}
use Rattle.ldm_actions.proofs.StepLemmas.{file_begun, nothing_begun, program_begun, program_executed, program_not_executed}
use Rattle.ldm_actions.proofs.steps.begin.Goals as goal

pub returns-in-ToFile : goal.returns-in-ToFile
returns-in-ToFile g c =
    let files = c.args.files.now in
    let piped = c.args.piped.now in
    let store = g.F.Store.tells c.args.store.now in
    let launcher = g.L.Launcher.tells c.args.launcher.now in
    let store_now = g.F.Store.tells c.begin.new.store in
    subst
    (λ (action : Given). BeginsKept c.begin.result (action_of action) (kept_in files piped store launcher) (kept_in c.begin.new.files piped store_now launcher))
    (sym c.in-ToFile.is)
    (file_begun files c.begin.new.files piped store store_now launcher c.begin.result (string_bytes c.in-ToFile.path) c.in-ToFile.options c.requires
    (rw c.as_str.ensures.value at c.begin.ensures))

pub returns-in-ToProgram : goal.returns-in-ToProgram
returns-in-ToProgram g c =
    let files = c.args.files.now in
    let piped = c.args.piped.now in
    let piped_now = c.begin-in-ToProgram.new.programs in
    let store = g.F.Store.tells c.args.store.now in
    let launcher = g.L.Launcher.tells c.args.launcher.now in
    let launcher_now = g.L.Launcher.tells c.begin-in-ToProgram.new.launcher in
    subst
    (λ (action : Given). BeginsKept c.begin-in-ToProgram.result (action_of action) (kept_in files piped store launcher) (kept_in files piped_now store launcher_now))
    (sym c.in-ToProgram.is)
    (program_begun files piped piped_now store launcher launcher_now c.begin-in-ToProgram.result c.in-ToProgram.program c.in-ToProgram.options c.requires
    c.begin-in-ToProgram.ensures)

pub returns-in-Ok : goal.returns-in-Ok
returns-in-Ok g c =
    let files = c.args.files.now in
    let piped = c.args.piped.now in
    let store = g.F.Store.tells c.args.store.now in
    let launcher = g.L.Launcher.tells c.args.launcher.now in
    let launcher_now = g.L.Launcher.tells c.execute.new.launcher in
    subst
    (λ (action : Given). BeginsKept answer.Ready (action_of action) (kept_in files piped store launcher) (kept_in files piped store launcher_now))
    (sym c.in-Start.is)
    (program_executed files piped store launcher launcher_now c.in-Start.program c.in-Start.wait c.requires c.in-Ok.ensures)

pub returns-in-Err : goal.returns-in-Err
returns-in-Err g c =
    let files = c.args.files.now in
    let piped = c.args.piped.now in
    let store = g.F.Store.tells c.args.store.now in
    let launcher = g.L.Launcher.tells c.args.launcher.now in
    let launcher_now = g.L.Launcher.tells c.execute.new.launcher in
    subst
    (λ (action : Given). BeginsKept answer.LaunchFault (action_of action) (kept_in files piped store launcher) (kept_in files piped store launcher_now))
    (sym c.in-Start.is)
    (program_not_executed files piped store launcher launcher_now c.in-Start.program c.in-Start.wait c.in-Err.field-0 c.in-Err.ensures)

pub returns-in-Nothing : goal.returns-in-Nothing
returns-in-Nothing g c =
    let old = kept_in c.args.files.now c.args.piped.now (g.F.Store.tells c.args.store.now) (g.L.Launcher.tells c.args.launcher.now) in
    subst (λ (action : Given). BeginsKept answer.Ready (action_of action) old old) (sym c.in-Nothing.is) (nothing_begun old c.requires)
