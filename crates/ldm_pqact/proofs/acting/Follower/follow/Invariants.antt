use Rattle.std.specs.Prelude.{◌≡◌}
use Rattle.ldm_actions.specs.Outputs.{standing}
use Rattle.ldm_pqact.specs.Acting.{sight_of}
use Rattle.ldm_pqact.specs.Course.{gated_of}
use Rattle.ldm_pqact.proofs.Stretches.{KeepsStretches}
use Rattle.ldm_pqact.proofs.acting.Follower.follow.Given as goal

abbrev pub invariant-loop : goal.invariant-loop
invariant-loop g l =
    KeepsStretches l.initial.self.pqact.entries l.reader.k
    (gated_of
    (sight_of l.initial.pass (standing l.initial.self.pqact.outputs (g.F.Store.tells l.initial.store) (g.L.Launcher.tells l.initial.launcher)) (g.E.Sink.tells l.initial.log))
    (g.G.Gate.tells l.initial.gate))
    (gated_of (sight_of l.pass (standing l.self.pqact.outputs (g.F.Store.tells l.store) (g.L.Launcher.tells l.launcher)) (g.E.Sink.tells l.log)) (g.G.Gate.tells l.gate))
    × (l.self.pqact.entries ≡ l.initial.self.pqact.entries)
    × (l.self.reader ≡ l.initial.self.reader)
