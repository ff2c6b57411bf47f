use Rattle.std.proofs.Common.{ap, sym}
use Rattle.ldm_journal.specs.declared.journal.Journal.{Journal}
use Rattle.ldm_recorder.specs.Recording.{sight_at, who_of}
use Rattle.ldm_recorder.proofs.Products.{take_unread, take_unreleased, take_unwritten, take_whole}
use Rattle.ldm_recorder.proofs.recorder.Recorder.take.Goals as goal

pub returns-in-Err-clause-taken : goal.returns-in-Err-clause-taken
returns-in-Err-clause-taken g c = λ body holds.
    take_unread c.args.self.now c.read_body.new.self c.args.held body c.args.pass.now c.read_body.new.pass c.args.number (g.D.Disk.tells c.args.disk.now)
    (g.E.Sink.tells c.args.log.now) (g.met.D.Disk.consistent c.args.disk.now) c.in-Err.ensures.same c.in-Err.why (c.in-Err.ensures.read body holds)

pub returns-in-Worn-clause-taken : goal.returns-in-Worn-clause-taken
returns-in-Worn-clause-taken g c = λ body holds.
    take_unreleased c.args.self.now c.read_body.new.self c.args.held body c.args.pass.now c.read_body.new.pass c.args.number (g.D.Disk.tells c.args.disk.now)
    (g.E.Sink.tells c.args.log.now) (g.met.D.Disk.consistent c.args.disk.now) c.in-Ok.ensures.same c.in-Ok.ensures.kept (c.in-Ok.ensures.read body holds)
    c.release.new.pass c.in-Worn.turns c.in-Worn.ensures.worn

pub returns-in-Ok-write-clause-taken : goal.returns-in-Ok-write-clause-taken
returns-in-Ok-write-clause-taken g c = λ body holds.
    let r = c.args.self.now in
    let s = c.read_body.new.self in
    let ring = sym (ap (λ (j : Journal). j.marks.ring) c.in-Ok.ensures.same.journal) in
    let works = rw (c.copy-info.ensures, c.deref.ensures.value) at c.in-Ok-write.ensures.written (who_of c.args.pass.now r) c.release.new.pass ring in
    take_whole r s c.args.held body c.args.pass.now c.read_body.new.pass c.args.number (g.D.Disk.tells c.args.disk.now)
    (g.E.Sink.tells c.args.log.now) (g.met.D.Disk.consistent c.args.disk.now) c.in-Ok.ensures.same c.in-Ok.ensures.kept (c.in-Ok.ensures.read body holds)
    c.release.new.pass c.in-Done.ensures.done
    (sight_at c.release.new.pass c.write.new.journal.marks (g.D.Disk.tells c.write.new.disk) (g.E.Sink.tells c.write.new.log)) works

pub returns-in-Err-write-clause-taken : goal.returns-in-Err-write-clause-taken
returns-in-Err-write-clause-taken g c = λ body holds.
    let r = c.args.self.now in
    let s = c.read_body.new.self in
    let ring = sym (ap (λ (j : Journal). j.marks.ring) c.in-Ok.ensures.same.journal) in
    let works = rw (c.copy-info.ensures, c.deref.ensures.value) at c.in-Err-write.ensures.written (who_of c.args.pass.now r) c.release.new.pass ring in
    take_unwritten r s c.args.held body c.args.pass.now c.read_body.new.pass c.args.number (g.D.Disk.tells c.args.disk.now)
    (g.E.Sink.tells c.args.log.now) (g.met.D.Disk.consistent c.args.disk.now) c.in-Ok.ensures.same c.in-Ok.ensures.kept (c.in-Ok.ensures.read body holds)
    c.release.new.pass c.in-Done.ensures.done c.in-Err-write.why
    (sight_at c.release.new.pass c.write.new.journal.marks (g.D.Disk.tells c.write.new.disk) (g.E.Sink.tells c.write.new.log)) works
