use Rattle.std.proofs.Common.{refl, sym, subst}
use Rattle.ldm_actions.specs.Outputs.{standing}
use Rattle.ldm_pqact_match.specs.declared.chosen.Decision.{Decision}
use Rattle.ldm_pqact.specs.Handling.{DoesHeld, bodied, lent}
use Rattle.ldm_pqact.specs.Turns.{deed_by}
use Rattle.ldm_pqact.proofs.Finishing.{does_nothing}
use Rattle.ldm_pqact.proofs.writer.Writer.carry.Goals as goal

pub returns-in-NoDate : goal.returns-in-NoDate
returns-in-NoDate g c = record {
  kept = refl;
  room = c.requires.room;
  keeps = c.requires.keeps;
  does = λ body holds.
      let it = bodied c.args.holding.now body in
      let now = lent c.args.pass.now (standing c.args.self.now.outputs (g.F.Store.tells c.args.store.now) (g.L.Launcher.tells c.args.launcher.now)) in
      subst (λ (decision : Decision). DoesHeld it (deed_by body decision) now now) (sym c.in-NoDate.is) (does_nothing it now holds);
}

pub returns-in-NotText : goal.returns-in-NotText
returns-in-NotText g c = record {
  kept = refl;
  room = c.requires.room;
  keeps = c.requires.keeps;
  does = λ body holds.
      let it = bodied c.args.holding.now body in
      let now = lent c.args.pass.now (standing c.args.self.now.outputs (g.F.Store.tells c.args.store.now) (g.L.Launcher.tells c.args.launcher.now)) in
      subst (λ (decision : Decision). DoesHeld it (deed_by body decision) now now) (sym c.in-NotText.is) (does_nothing it now holds);
}
