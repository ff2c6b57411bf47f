use Rattle.std.proofs.Common.{◌∙◌, ap, arith, List, refl}
use Rattle.ldm_recorder.specs.declared.line.Line.{Line}
use Rattle.ldm_recorder.specs.Lines.{note_of, with_lasts}
use Rattle.ldm_recorder.specs.Recording.{who_of}
use Rattle.ldm_recorder.proofs.Catching.{commits_lasts, commits_none, saves_next}
use Rattle.ldm_recorder.proofs.Knowing.{knows_same}
use Rattle.ldm_recorder.proofs.recorder.Recorder.save_known.Goals as goal

pub returns-then-appended-eq0-clause-saved : goal.returns-then-appended-eq0-clause-saved
returns-then-appended-eq0-clause-saved g c = λ pass log knows.
    let r = c.args.self.now in
    commits_none (who_of pass r) c.args.at r pass (g.D.Disk.tells c.args.disk.now) log r.journal.sound.2 (omega (arith, c.appended.ensures, c.if-appended-eq0.true))
    (g.met.D.Disk.consistent c.args.disk.now)

pub returns-clause-same : goal.returns-clause-same
returns-clause-same g c = record { reader = refl; base = refl; lines = refl; ring = c.save.ensures.ring }

pub returns-clause-knows : goal.returns-clause-knows
returns-clause-knows g c = λ seen knows. knows_same seen c.args.self.now (record c.args.self.now { journal = c.save.new.journal }) refl refl refl knows

pub returns-clause-next : goal.returns-clause-next
returns-clause-next g c = saves_next c.save.result _ _ _ c.save.ensures.saved

pub returns-clause-saved : goal.returns-clause-saved
returns-clause-saved g c = λ pass log knows.
    let r = c.args.self.now in
    commits_lasts c.save.result c.args.at r (record r { journal = c.save.new.journal }) pass (g.D.Disk.tells c.args.disk.now) (g.D.Disk.tells c.save.new.disk) log
    c.lasts_below-lasts.result c.note_of-note.result (c.lasts_below-lasts.ensures pass.seen knows)
    (c.note_of-note.ensures ∙ ap (λ (l : List Line). note_of (with_lasts l c.lasts_below-lasts.result)) c.deref.ensures.value) c.save.ensures.saved
