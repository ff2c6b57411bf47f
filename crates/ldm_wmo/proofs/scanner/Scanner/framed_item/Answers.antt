use Rattle.std.proofs.Common.{◌≡◌, ◌∙◌, ap, sym, subst}
use Rattle.ldm_wmo.specs.declared.stage.FrameStage.TheVariants.{Whole}
use Rattle.ldm_wmo.specs.declared.stage.Stage.{Stage}
use Rattle.ldm_wmo.specs.declared.stage.Stage.TheVariants.{Framed}
use Rattle.ldm_wmo.specs.Items.{IsSound}
use Rattle.ldm_wmo.specs.Scanning.{Scanning}
use Rattle.ldm_wmo.specs.Stages.{StageFits}
use Rattle.ldm_wmo.proofs.Sound.{enclosed_sound}
use Rattle.ldm_wmo.proofs.scanner.Scanner.framed_item.Goals as goal

pub returns-in-Whole-clause-sound : goal.returns-in-Whole-clause-sound
returns-in-Whole-clause-sound c =
    let is : c.self.inside.stage ≡ Framed (Whole c.in-Whole.at c.in-Whole.kind) = ap (λ (s : Scanning). s.stage) c.self.view_is ∙ c.requires ∙ ap Framed c.in-Whole.is in
    let P : Stage → Type 0 = λ stage. StageFits stage c.self.inside.candidate.items in
    subst IsSound (sym c.enclosed_at.ensures)
    (enclosed_sound c.in-Whole.at c.in-Whole.kind c.as_slice.result.now (rw c.as_slice.ensures.value (subst P is c.self.invariant.stage)))
