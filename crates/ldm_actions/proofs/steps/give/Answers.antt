use Rattle.ldm_actions.specs.declared.answers.Done.TheVariants as done
use Rattle.ldm_actions.specs.declared.hand.Place.TheVariants as place
use Rattle.ldm_actions.proofs.StepLemmas.{gives_at, child_given, file_given, file_not_given, nothing_given}
use Rattle.ldm_actions.proofs.steps.give.Goals as goal

pub returns-in-Nowhere : goal.returns-in-Nowhere
returns-in-Nowhere g c =
    gives_at done.Ok c.args.hand c.args.files.now place.Nowhere c.args.bytes.now _ _ c.in-Nowhere.is
    (nothing_given c.args.hand.strip c.args.hand.close c.args.hand.flush c.args.bytes.now _ c.requires.keeps)

pub returns-in-Ok : goal.returns-in-Ok
returns-in-Ok g c =
    gives_at done.Ok c.args.hand c.args.files.now place.File c.args.bytes.now _ _ c.in-File.is
    (file_given {it = (c.newest.ensures.0, c.newest.result)} c.newest.ensures.1 c.requires.keeps c.args.hand.strip c.args.hand.close c.args.hand.flush c.args.bytes.now c.in-Ok.ensures)

pub returns-in-Err : goal.returns-in-Err
returns-in-Err g c =
    gives_at done.StoreFault c.args.hand c.args.files.now place.File c.args.bytes.now _ _ c.in-File.is
    (file_not_given {it = (c.newest.ensures.0, c.newest.result)} c.newest.ensures.1 c.requires.keeps c.args.hand.strip c.args.hand.close c.args.hand.flush c.args.bytes.now c.in-Err.field-0 c.in-Err.ensures)

pub returns-in-Ok-feed_kept : goal.returns-in-Ok-feed_kept
returns-in-Ok-feed_kept g c =
    gives_at done.Ok c.args.hand c.args.files.now place.Child c.args.bytes.now _ _ c.in-Child.is
    (child_given {it = (c.newest-in-Child.ensures.0, c.newest-in-Child.result)} c.newest-in-Child.ensures.1 c.requires.keeps c.args.hand.strip c.args.hand.close c.args.hand.flush c.args.bytes.now
    c.in-Ok-feed_kept.ensures)
