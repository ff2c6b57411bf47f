use Rattle.std.proofs.Common.{◌-◌, [], ◌∷◌}
use Rattle.ldm_journal.specs.Runs.{Commit}
use Rattle.ldm_recorder.proofs.Keeping.{committed_one, no_journal, not_committed, stood_for_nothing}
use Rattle.ldm_recorder.proofs.save.save.Goals as goal

pub returns-in-Committed-clause-saved : goal.returns-in-Committed-clause-saved
returns-in-Committed-clause-saved g c =
    let tells = g.D.Disk.tells in
    let e = c.in-Committed.ensures in
    let before = c.args.journal.now.marks in
    let after = c.commit.new.self.marks in (
      record {
        made = committed_one c.args.gap c.args.note.now before after e.note (tells c.args.disk.now).file (tells c.commit.new.disk).file e.committed;
        ring = e.ring;
        faults = e.kept.faults;
      },
      e.next,
    )

pub returns-in-NotAJournal-clause-saved : goal.returns-in-NotAJournal-clause-saved
returns-in-NotAJournal-clause-saved g c =
    let tells = g.D.Disk.tells in
    let e = c.in-NotAJournal.ensures in
    let before = c.args.journal.now.marks in
    let after = c.commit.new.self.marks in
    let old = (tells c.args.disk.now).file in
    let new = (tells c.commit.new.disk).file in
    record {
      left = no_journal (λ start. Commit (before.ring - c.args.gap) c.args.note.now ∷ []) c.args.gap c.args.note.now before after old new e.committed;
      cause = (e.kept.faults, stood_for_nothing c.args.gap c.args.note.now before after old new e.committed);
    }

pub returns-in-DiskFault-clause-saved : goal.returns-in-DiskFault-clause-saved
returns-in-DiskFault-clause-saved g c =
    let tells = g.D.Disk.tells in
    let e = c.in-DiskFault.ensures in
    let before = c.args.journal.now.marks in
    let after = c.commit.new.self.marks in
    let old = (tells c.args.disk.now).file in
    let new = (tells c.commit.new.disk).file in
    record { left = not_committed c.args.gap c.args.note.now before after old new e.committed; cause = e.ended }
