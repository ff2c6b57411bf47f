use Rattle.ldm_actions.specs.declared.answers.Done.TheVariants as done
use Rattle.ldm_actions.specs.declared.hand.Place.TheVariants as place
use Rattle.ldm_actions.specs.Hands.{newest_path}
use Rattle.ldm_actions.proofs.StepLemmas.{finishes_at, file_is_finished, file_not_finished, nothing_finished, program_finished, program_not_finished}
use Rattle.ldm_actions.proofs.steps.finish.Goals as goal

pub returns-in-Nowhere : goal.returns-in-Nowhere
returns-in-Nowhere g c =
    finishes_at done.Ok c.args.hand c.args.files.now place.Nowhere _ _ c.in-Nowhere.is
    (nothing_finished c.args.hand.strip c.args.hand.close c.args.hand.flush _ c.requires.keeps)

pub returns-in-Ok : goal.returns-in-Ok
returns-in-Ok g c =
    finishes_at done.Ok c.args.hand c.args.files.now place.File _ _ c.in-File.is
    (file_is_finished (newest_path c.args.files.now) c.args.hand.strip c.args.hand.close c.args.hand.flush c.requires.keeps c.in-Ok.ensures)

pub returns-in-Err : goal.returns-in-Err
returns-in-Err g c =
    finishes_at done.StoreFault c.args.hand c.args.files.now place.File _ _ c.in-File.is
    (file_not_finished (newest_path c.args.files.now) c.args.hand.strip c.args.hand.close c.args.hand.flush c.in-Err.ensures)

pub returns-in-Ok-finish : goal.returns-in-Ok-finish
returns-in-Ok-finish g c =
    finishes_at done.Ok c.args.hand c.args.files.now place.Child _ _ c.in-Child.is
    (program_finished c.args.hand.strip c.args.hand.close c.args.hand.flush c.requires.keeps c.in-Ok-finish.ensures)

pub returns-in-Err-finish : goal.returns-in-Err-finish
returns-in-Err-finish g c =
    finishes_at done.LaunchFault c.args.hand c.args.files.now place.Child _ _ c.in-Child.is
    (program_not_finished c.args.hand.strip c.args.hand.close c.args.hand.flush c.in-Err-finish.ensures)
