use Rattle.std.proofs.Common.{[], ◌∷◌}
use Rattle.ldm_journal.specs.Records.{Kept}
use Rattle.ldm_journal.specs.Runs.{Append}
use Rattle.ldm_recorder.proofs.Keeping.{appended_one, not_appended}
use Rattle.ldm_recorder.proofs.save.append_where_free.Goals as goal

pub returns-in-Appended-clause-appended : goal.returns-in-Appended-clause-appended
returns-in-Appended-clause-appended g c =
    let tells = g.D.Disk.tells in
    let e = c.in-Appended.ensures in
    let k : Kept = record { number = c.args.number; time = c.args.time; info = c.args.info.now; body = c.args.body.now } in (
      record {
        made = appended_one k c.args.journal.now.marks c.append.new.self.marks e.note (tells c.args.disk.now).file (tells c.append.new.disk).file e.appended;
        ring = e.ring;
        faults = e.kept.faults;
      },
      e.numbered,
    )

pub returns-in-DiskFault-clause-appended : goal.returns-in-DiskFault-clause-appended
returns-in-DiskFault-clause-appended g c =
    let tells = g.D.Disk.tells in
    let e = c.in-DiskFault.ensures in
    let k : Kept = record { number = c.args.number; time = c.args.time; info = c.args.info.now; body = c.args.body.now } in
    record {
      left = not_appended (λ start. Append k ∷ []) k c.args.journal.now.marks c.append.new.self.marks (tells c.args.disk.now).file (tells c.append.new.disk).file e.appended;
      cause = e.ended.1;
    }
