use Rattle.ldm_actions.specs.Kept.{number_under}
use Rattle.ldm_actions.proofs.FileSteps.{uses_raised}
use Rattle.ldm_actions.proofs.KeptLemmas.{found_some}
use Rattle.ldm_actions.proofs.open_files.use_file.Goals as goal

pub returns-then-raise : goal.returns-then-raise
returns-then-raise g c =
    let kept = c.args.files.now in
    let path = c.args.path.now in
    let found = found_some (number_under path kept) c.raise.result c.raise.ensures.found c.if-raise.true in
    uses_raised path found.0 kept c.raise.new.self (g.F.Store.tells c.args.store.now) found.1 c.raise.ensures.raised c.requires
