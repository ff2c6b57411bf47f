use Rattle.std.specs.Prelude.{◌≡◌, ◌≤◌}
use Rattle.std.specs.Vec.{vec_capacity}
use Rattle.ldm_actions.specs.Outputs.{standing}
use Rattle.ldm_pqact.specs.declared.limits.TheConstants.{LARGEST_PIECE}
use Rattle.ldm_pqact.specs.Acting.{sight_of}
use Rattle.ldm_shared.specs.Counting.{CountsGiven}
use Rattle.ldm_pqact.specs.Lasting.{LastGiven}
use Rattle.ldm_pqact.specs.Parts.{signature_of}
use Rattle.ldm_pqact.proofs.Coursing.{KeepsCourse}
use Rattle.ldm_pqact.proofs.carrier.Carrier.turns.Given as goal

abbrev pub invariant-loop : goal.invariant-loop
invariant-loop g l =
    KeepsCourse l.initial.self.entries l.reader.k
    (sight_of l.initial.pass (standing l.initial.self.writer.outputs (g.F.Store.tells l.initial.store) (g.L.Launcher.tells l.initial.launcher)) (g.E.Sink.tells l.initial.log))
    (sight_of l.pass (standing l.self.writer.outputs (g.F.Store.tells l.store) (g.L.Launcher.tells l.launcher)) (g.E.Sink.tells l.log))
    × (l.self.entries ≡ l.initial.self.entries)
    × (LARGEST_PIECE ≤ vec_capacity l.self.writer.buffer)
    × CountsGiven l.initial.pass l.pass l.initial.self.left l.self.left
    × LastGiven l.initial.pass l.pass (signature_of l.initial.self.last) (signature_of l.self.last)
