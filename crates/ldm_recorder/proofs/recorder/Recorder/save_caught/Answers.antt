use Rattle.std.proofs.Common.{◌≡◌, arith, subst}
use Rattle.std.specs.Prelude.{OnOk}
use Rattle.ldm_shared.proofs.Made.{calls_none}
use Rattle.ldm_journal.specs.declared.journal.Journal.{Journal}
use Rattle.ldm_recorder.specs.Recording.{who_of}
use Rattle.ldm_recorder.proofs.Catching.{commits_asked, commits_none}
use Rattle.ldm_recorder.proofs.Coursing.{recorder_none, recorder_then}
use Rattle.ldm_recorder.proofs.Knowing.{but_lasts}
use Rattle.ldm_recorder.proofs.PuttingBack.{no_call, same_none}
use Rattle.ldm_recorder.proofs.recorder.Recorder.save_caught.Goals as goal

pub returns-then-appended-eq0-clause-kept : goal.returns-then-appended-eq0-clause-kept
returns-then-appended-eq0-clause-kept g c = same_none c.args.pass.now

pub returns-then-appended-eq0-clause-calls : goal.returns-then-appended-eq0-clause-calls
returns-then-appended-eq0-clause-calls g c = calls_none c.args.pass.now

pub returns-then-appended-eq0-clause-same : goal.returns-then-appended-eq0-clause-same
returns-then-appended-eq0-clause-same g c = recorder_none c.args.self.now

pub returns-then-appended-eq0-clause-disk : goal.returns-then-appended-eq0-clause-disk
returns-then-appended-eq0-clause-disk g c = no_call (g.D.Disk.tells c.args.disk.now)

pub returns-then-appended-eq0-clause-saved : goal.returns-then-appended-eq0-clause-saved
returns-then-appended-eq0-clause-saved g c = λ log knows.
    let r = c.args.self.now in
    commits_none (who_of c.args.pass.now r) c.args.at r c.args.pass.now (g.D.Disk.tells c.args.disk.now) log r.journal.sound.2
    (omega (arith, c.appended.ensures, c.if-appended-eq0.true)) (g.met.D.Disk.consistent c.args.disk.now)

pub returns-clause-same : goal.returns-clause-same
returns-clause-same g c =
    recorder_then c.args.self.now c.learn.new.self c.save_known.new.self (but_lasts c.args.self.now c.learn.new.self c.learn.ensures.same) c.save_known.ensures.same

pub returns-clause-knows : goal.returns-clause-knows
returns-clause-knows g c = λ knows. c.save_known.ensures.knows c.learn.new.pass.seen (c.learn.ensures.knows knows)

pub returns-clause-idle : goal.returns-clause-idle
returns-clause-idle g c = λ none. absurd (omega (arith, none, c.appended.ensures, c.if-appended-eq0.false))

pub returns-clause-next : goal.returns-clause-next
returns-clause-next g c =
    subst (λ (j : Journal). OnOk c.save_known.result (c.save_known.new.self.journal.marks.next ≡ j.marks.next)) c.learn.ensures.same.journal c.save_known.ensures.next

pub returns-clause-saved : goal.returns-clause-saved
returns-clause-saved g c = λ log knows.
    commits_asked c.save_known.result c.args.at c.args.pass.now c.learn.new.pass c.args.self.now c.learn.new.self c.save_known.new.self (g.D.Disk.tells c.args.disk.now)
    (g.D.Disk.tells c.save_known.new.disk) log c.learn.ensures.kept c.learn.ensures.same
    (c.save_known.ensures.saved c.learn.new.pass log (c.learn.ensures.knows knows))
