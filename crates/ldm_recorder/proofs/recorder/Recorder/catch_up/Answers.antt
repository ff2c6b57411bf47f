use Rattle.std.proofs.Common.{◌≡◌, ◌∙◌, ℕ, None, subst, sym}
use Rattle.std.specs.Prelude.{Err, Ok}
use Rattle.ldm_model.specs.State.{end_of, queued}
use Rattle.ldm_recorder.specs.Finishing.{TellsLost, behind_all}
use Rattle.ldm_recorder.specs.Recording.{sight_at, sight_of, who_of}
use Rattle.ldm_recorder.specs.Catching.{CommitsAt}
use Rattle.ldm_recorder.specs.Saving.{kit_of}
use Rattle.ldm_recorder.proofs.Coursing.{recorder_then}
use Rattle.ldm_recorder.proofs.Finishing.{caught_broken, caught_made, lost_broken, lost_made}
use Rattle.ldm_recorder.proofs.Knowing.{knows_same}
use Rattle.ldm_recorder.proofs.Leaving.{all_caught_broken, all_lost_broken, all_made, all_queued_broken, still_commits}
use Rattle.ldm_recorder.proofs.recorder.Recorder.catch_up.Goals as goal

pub returns-in-Err-clause-caught : goal.returns-in-Err-clause-caught
returns-in-Err-clause-caught g c = λ s stands pass knows.
    let r = c.args.self.now in (
      None,
      all_queued_broken c.in-Err.why (who_of pass r) c.args.from (end_of s) None (queued s) (sight_of pass r (g.D.Disk.tells c.args.disk.now) (g.E.Sink.tells c.args.log.now))
          (sight_of pass c.write_left.new.self (g.D.Disk.tells c.write_left.new.disk) (g.E.Sink.tells c.write_left.new.log)) (c.in-Err.ensures.wrote s stands pass),
    )

pub returns-in-Err-tell_lost-clause-caught : goal.returns-in-Err-tell_lost-clause-caught
returns-in-Err-tell_lost-clause-caught g c = λ s stands pass knows.
    let r = c.args.self.now in
    let who = who_of pass r in
    let t = c.write_left.new.self in
    let disk = g.D.Disk.tells c.write_left.new.disk in
    let lines = g.E.Sink.tells in
    let why = c.in-Err-tell_lost.why in
    let here = sight_of pass r (g.D.Disk.tells c.args.disk.now) (lines c.args.log.now) in
    let there = sight_at pass t.journal.marks disk (lines c.write_left.new.log) in
    let behind = sight_at pass t.journal.marks disk (lines c.tell_lost.new.log) in
    let told =
    subst (λ (n : ℕ). TellsLost (Err why) n (end_of s) (lines c.write_left.new.log) (lines c.tell_lost.new.log)) (c.in-Ok.ensures.next s stands)
    (subst (λ (n : ℕ). TellsLost (Err why) c.in-Ok.next n (lines c.write_left.new.log) (lines c.tell_lost.new.log)) (c.admitted-end.ensures ∙ stands.admitted) c.in-Err-tell_lost.ensures.told) in
    let broken =
    all_lost_broken who c.args.from (end_of s) None (queued s) here there (c.in-Ok.ensures.wrote s stands pass) why behind
    (lost_broken who (behind_all c.args.from (queued s)) (end_of s) pass t.journal.marks disk (g.met.D.Disk.consistent c.write_left.new.disk) (lines c.write_left.new.log)
    (lines c.tell_lost.new.log) why told) in (None, broken)

pub returns-in-Ok-save_known-clause-caught : goal.returns-in-Ok-save_known-clause-caught
returns-in-Ok-save_known-clause-caught g c = λ s stands pass knows.
    let r = c.args.self.now in
    let who = who_of pass r in
    let t = c.write_left.new.self in
    let disk = g.D.Disk.tells c.write_left.new.disk in
    let left = g.D.Disk.tells c.save_known.new.disk in
    let lines = g.E.Sink.tells in
    let same = c.in-Ok.ensures.same in
    let here = sight_of pass r (g.D.Disk.tells c.args.disk.now) (lines c.args.log.now) in
    let there = sight_at pass t.journal.marks disk (lines c.write_left.new.log) in
    let behind = sight_at pass t.journal.marks disk (lines c.tell_lost.new.log) in
    let end = sight_at pass c.save_known.new.self.journal.marks left (lines c.tell_lost.new.log) in
    let admitted : c.admitted-end.result ≡ end_of s = c.admitted-end.ensures ∙ stands.admitted in
    let told =
    subst (λ (n : ℕ). TellsLost (Ok tt) n (end_of s) (lines c.write_left.new.log) (lines c.tell_lost.new.log)) (c.in-Ok.ensures.next s stands)
    (subst (λ (n : ℕ). TellsLost (Ok tt) c.in-Ok.next n (lines c.write_left.new.log) (lines c.tell_lost.new.log)) admitted c.in-Ok-tell_lost.ensures.told) in
    let known = knows_same pass.seen r t same.base same.lines c.in-Ok.ensures.lasts knows in
    let commits : CommitsAt (Ok tt) who (end_of s) behind end =
    still_commits r t same pass (Ok tt) c.admitted-end.result (end_of s) admitted behind end (c.in-Ok-save_known.ensures.saved pass (lines c.tell_lost.new.log) known) in
    let lost =
    lost_made who (behind_all c.args.from (queued s)) (end_of s) pass t.journal.marks disk (g.met.D.Disk.consistent c.write_left.new.disk) (lines c.write_left.new.log)
    (lines c.tell_lost.new.log) told in (
      commits.lasts,
      all_made who c.args.from (end_of s) commits.lasts (queued s) here there (c.in-Ok.ensures.wrote s stands pass) behind end lost
          (caught_made who (end_of s) pass (lines c.tell_lost.new.log) (kit_of t.journal.marks disk) (kit_of c.save_known.new.self.journal.marks left) (sym same.ring) commits),
    )

pub returns-in-Err-save_known-clause-caught : goal.returns-in-Err-save_known-clause-caught
returns-in-Err-save_known-clause-caught g c = λ s stands pass knows.
    let r = c.args.self.now in
    let who = who_of pass r in
    let t = c.write_left.new.self in
    let disk = g.D.Disk.tells c.write_left.new.disk in
    let left = g.D.Disk.tells c.save_known.new.disk in
    let lines = g.E.Sink.tells in
    let why = c.in-Err-save_known.why in
    let same = c.in-Ok.ensures.same in
    let here = sight_of pass r (g.D.Disk.tells c.args.disk.now) (lines c.args.log.now) in
    let there = sight_at pass t.journal.marks disk (lines c.write_left.new.log) in
    let behind = sight_at pass t.journal.marks disk (lines c.tell_lost.new.log) in
    let end = sight_at pass c.save_known.new.self.journal.marks left (lines c.tell_lost.new.log) in
    let admitted : c.admitted-end.result ≡ end_of s = c.admitted-end.ensures ∙ stands.admitted in
    let told =
    subst (λ (n : ℕ). TellsLost (Ok tt) n (end_of s) (lines c.write_left.new.log) (lines c.tell_lost.new.log)) (c.in-Ok.ensures.next s stands)
    (subst (λ (n : ℕ). TellsLost (Ok tt) c.in-Ok.next n (lines c.write_left.new.log) (lines c.tell_lost.new.log)) admitted c.in-Ok-tell_lost.ensures.told) in
    let known = knows_same pass.seen r t same.base same.lines c.in-Ok.ensures.lasts knows in
    let commits : CommitsAt (Err why) who (end_of s) behind end =
    still_commits r t same pass (Err why) c.admitted-end.result (end_of s) admitted behind end (c.in-Err-save_known.ensures.saved pass (lines c.tell_lost.new.log) known) in
    let lost =
    lost_made who (behind_all c.args.from (queued s)) (end_of s) pass t.journal.marks disk (g.met.D.Disk.consistent c.write_left.new.disk) (lines c.write_left.new.log)
    (lines c.tell_lost.new.log) told in (
      commits.lasts,
      all_caught_broken who c.args.from (end_of s) commits.lasts (queued s) here there (c.in-Ok.ensures.wrote s stands pass) behind end lost why
          (caught_broken who (end_of s) pass (lines c.tell_lost.new.log) (kit_of t.journal.marks disk) (kit_of c.save_known.new.self.journal.marks left) (sym same.ring)
          (g.met.D.Disk.consistent c.write_left.new.disk) why commits c.save_known.ensures.disk.faults),
    )

pub returns-in-Ok-save_known-clause-same : goal.returns-in-Ok-save_known-clause-same
returns-in-Ok-save_known-clause-same g c = recorder_then c.args.self.now c.write_left.new.self c.save_known.new.self c.in-Ok.ensures.same c.in-Ok-save_known.ensures.same

pub returns-in-Err-save_known-clause-same : goal.returns-in-Err-save_known-clause-same
returns-in-Err-save_known-clause-same g c = recorder_then c.args.self.now c.write_left.new.self c.save_known.new.self c.in-Ok.ensures.same c.in-Err-save_known.ensures.same
