use Rattle.std.proofs.Common.{subst}
use Rattle.ldm_actions.specs.Outputs.{standing}
use Rattle.ldm_pqact.specs.Acting.{sight_of}
use Rattle.ldm_pqact.specs.Complete.{Completes}
use Rattle.ldm_pqact.specs.Parts.{PqactView}
use Rattle.ldm_pqact.proofs.Completing.{completes}
use Rattle.ldm_pqact.proofs.pqact.Pqact.pending.Goals as goal

pub returns-clause-completes : goal.returns-clause-completes
returns-clause-completes g c =
    let after = c.turns.new.self.writer.outputs in
    let new = sight_of c.turns.new.pass (standing after (g.F.Store.tells c.turns.new.store) (g.L.Launcher.tells c.turns.new.launcher)) (g.E.Sink.tells c.turns.new.log) in
    subst
    (λ (was : PqactView). Completes c.turns.result was.entries c.args.reader.now.k
    (sight_of c.args.pass.now (standing was.outputs (g.F.Store.tells c.args.store.now) (g.L.Launcher.tells c.args.launcher.now)) (g.E.Sink.tells c.args.log.now)) new)
    c.self.view_is (completes c.turns.result c.self.inside.carrier.entries c.args.reader.now.k _ new c.turns.ensures.acts)
