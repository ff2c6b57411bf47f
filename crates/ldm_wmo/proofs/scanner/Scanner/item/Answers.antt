use Rattle.std.proofs.Common.{sym, subst}
use Rattle.ldm_wmo.specs.declared.stage.Stage.{Stage}
use Rattle.ldm_wmo.specs.Items.{IsSound}
use Rattle.ldm_wmo.specs.Stages.{StageFits}
use Rattle.ldm_wmo.specs.declared.kind.Kind.TheVariants.{Alphanumeric}
use Rattle.ldm_wmo.proofs.Sound.{message_sound}
use Rattle.ldm_wmo.proofs.scanner.Scanner.item.Goals as goal

pub returns-in-Complete-clause-sound : goal.returns-in-Complete-clause-sound
returns-in-Complete-clause-sound c =
    let P : Stage → Type 0 = λ stage. StageFits stage c.self.inside.candidate.items in
    subst IsSound (sym c.item_at.ensures) (message_sound c.in-Complete.at Alphanumeric c.as_slice.result.now (rw c.as_slice.ensures.value (subst P c.in-Complete.is c.self.invariant.stage)))
