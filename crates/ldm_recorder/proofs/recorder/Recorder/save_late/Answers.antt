use Rattle.std.proofs.Common.{refl}
use Rattle.ldm_recorder.proofs.Stepping.{saved_late, saved_lately}
use Rattle.ldm_recorder.proofs.recorder.Recorder.save_late.Goals as goal

pub returns-then-get-saturating_add-clause-saved : goal.returns-then-get-saturating_add-clause-saved
returns-then-get-saturating_add-clause-saved g c = λ pass log.
    saved_lately c.args.self.now (g.D.Disk.tells c.args.disk.now) pass log (g.met.D.Disk.consistent c.args.disk.now)

pub returns-clause-same : goal.returns-clause-same
returns-clause-same g c = record { reader = refl; base = refl; lines = refl; ring = c.save_some.ensures.ring }

pub returns-clause-saved : goal.returns-clause-saved
returns-clause-saved g c = λ pass log.
    saved_late c.args.self.now (record c.args.self.now { journal = c.save_some.new.journal }) (g.D.Disk.tells c.args.disk.now) (g.D.Disk.tells c.save_some.new.disk) c.save_some.ensures.kept.faults pass log c.save_some.result c.save_some.ensures.saved
