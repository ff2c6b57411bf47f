use Rattle.std.proofs.Common.{subst, sym}
use Rattle.std.specs.Prelude.{Ok, Err}
use Rattle.ldm_disk.specs.Told.{IsConsistent}
use Rattle.ldm_disk.specs.Calls.{FileChanges, KeepsFile}
use Rattle.ldm_journal.specs.declared.commit.CommitEnd.{CommitEnd}
use Rattle.ldm_journal.specs.declared.commit.CommitEnd.TheVariants.{Committed, DiskFault}
use Rattle.ldm_journal.specs.Committing.{Commits, DropsFor, EndsCommitting, Turns, end_of}
use Rattle.ldm_disk.proofs.Told.{mapped, chained}
use Rattle.ldm_journal.proofs.CommitWhole.{commits, commit_fails, not_dropped, ends_so, with_drops}
use Rattle.ldm_journal.proofs.journal.Journal.commit.Goals as goal

pub returns-in-Ok-turn-clause-committed : goal.returns-in-Ok-turn-clause-committed
returns-in-Ok-turn-clause-committed g c =
    let tells = g.D.Disk.tells in
    let marks = c.args.self.now.marks in
    let gap = c.args.gap in
    let note = c.args.note.now in
    let n = c.in-Ok.dropped in
    let done = c.in-Ok-turn.field-0 in
    let after = c.turn.new.marks in
    let old = (tells c.args.disk.now).file in
    let mid = (tells c.dropped_for.new.disk).file in
    let new = (tells c.turn.new.disk).file in
    chained IsConsistent IsConsistent (λ a b. KeepsFile a b × DropsFor (Ok n) gap marks a) (Turns (Ok done) n note marks after) (Commits Committed gap note marks after)
    (λ a b d s t first turns. commits gap n note marks after done a b d s first turns) old mid new (g.met.D.Disk.consistent c.args.disk.now) (g.met.D.Disk.consistent c.dropped_for.new.disk)
    (with_drops (DropsFor (Ok n) gap marks) old mid c.dropped_for.ensures.file c.in-Ok.ensures.found) c.in-Ok-turn.ensures.turned

pub returns-in-Err-turn-clause-committed : goal.returns-in-Err-turn-clause-committed
returns-in-Err-turn-clause-committed g c =
    let tells = g.D.Disk.tells in
    let marks = c.args.self.now.marks in
    let gap = c.args.gap in
    let note = c.args.note.now in
    let n = c.in-Ok.dropped in
    let failed = c.in-Err-turn.field-0 in
    let after = c.turn.new.marks in
    let old = (tells c.args.disk.now).file in
    let mid = (tells c.dropped_for.new.disk).file in
    let new = (tells c.turn.new.disk).file in
    chained IsConsistent IsConsistent (λ a b. KeepsFile a b × DropsFor (Ok n) gap marks a) (Turns (Err failed) n note marks after) (Commits DiskFault gap note marks after)
    (λ a b d s t first turns. commit_fails gap n note marks after failed a b d s first turns) old mid new (g.met.D.Disk.consistent c.args.disk.now)
    (g.met.D.Disk.consistent c.dropped_for.new.disk) (with_drops (DropsFor (Ok n) gap marks) old mid c.dropped_for.ensures.file c.in-Ok.ensures.found) c.in-Err-turn.ensures.turned

pub returns-in-Err-clause-committed : goal.returns-in-Err-clause-committed
returns-in-Err-clause-committed g c =
    let tells = g.D.Disk.tells in
    let marks = c.args.self.now.marks in
    let gap = c.args.gap in
    let note = c.args.note.now in
    let why = c.in-Err.fault in
    let old = (tells c.args.disk.now).file in
    let new = (tells c.dropped_for.new.disk).file in
    subst (λ (e : CommitEnd). FileChanges (Commits e gap note marks marks) old new) (sym c.end_of.ensures)
    (mapped IsConsistent (λ a b. KeepsFile a b × DropsFor (Err why) gap marks a) (Commits (end_of why) gap note marks marks)
    (λ a b s first. not_dropped why gap note marks marks a b s first) old new (g.met.D.Disk.consistent c.args.disk.now)
    (with_drops (DropsFor (Err why) gap marks) old new c.dropped_for.ensures.file c.in-Err.ensures.found))

pub returns-in-Err-clause-ended : goal.returns-in-Err-clause-ended
returns-in-Err-clause-ended g c =
    let tells = g.D.Disk.tells in
    let old = tells c.args.disk.now in
    let new = tells c.dropped_for.new.disk in
    subst (λ (e : CommitEnd). EndsCommitting e old new) (sym c.end_of.ensures)
    (ends_so c.in-Err.fault old new c.dropped_for.ensures.kept.faults c.in-Err.ensures.failed)
