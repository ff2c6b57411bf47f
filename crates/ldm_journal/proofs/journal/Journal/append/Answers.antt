use Rattle.std.proofs.Common.{◌++◌, ◌∙◌}
use Rattle.std.specs.Prelude.{Ok, Err}
use Rattle.md5.specs.Md5.{md5}
use Rattle.ldm_journal.specs.declared.append.AppendEnd.TheVariants.{Appended, DiskFault}
use Rattle.ldm_journal.specs.Records.{Kept, IsLawful}
use Rattle.ldm_journal.specs.Pushing.{Pushes}
use Rattle.ldm_journal.specs.Appending.{Appends}
use Rattle.ldm_disk.proofs.Told.{one_call}
use Rattle.ldm_journal.proofs.AppendLemmas.{numbered, appended_parts, append_failed}
use Rattle.ldm_journal.proofs.journal.Journal.append.Goals as goal

pub returns-in-Ok-clause-appended : goal.returns-in-Ok-clause-appended
returns-in-Ok-clause-appended g c =
    let tells = g.D.Disk.tells in
    let before = c.args.self.now.marks in
    let mid = c.push_record.new.marks in
    let head = c.deref.result.now in
    let k : Kept = record { number = c.args.number; time = c.args.time; info = c.args.info.now; body = c.args.body.now } in
    let lawful : IsLawful k = record {
      number = c.requires.numbered;
      time = c.head_of-head.ensures.timed;
      info = c.head_of-head.ensures.fits;
      body = c.requires.whole;
    } in
    let done = c.in-Ok.field-0 in
    one_call (Pushes (Ok done) before ((head ++ k.body) ++ md5 (head ++ k.body))) (Appends Appended k before (numbered k.number mid))
    (λ old new pushes. appended_parts k head before mid done old new (c.deref.ensures.0 ∙ c.head_of-head.ensures.text) lawful c.requires.rises c.in-Ok.ensures.grown pushes)
    (tells c.args.disk.now).file (tells c.push_record.new.disk).file c.in-Ok.ensures.pushed

pub returns-in-Err-clause-appended : goal.returns-in-Err-clause-appended
returns-in-Err-clause-appended g c =
    let tells = g.D.Disk.tells in
    let before = c.args.self.now.marks in
    let head = c.deref.result.now in
    let k : Kept = record { number = c.args.number; time = c.args.time; info = c.args.info.now; body = c.args.body.now } in
    let bytes = (head ++ k.body) ++ md5 (head ++ k.body) in
    let failed = c.in-Err.field-0 in
    one_call (Pushes (Err failed) before bytes) (Appends DiskFault k before c.push_record.new.marks)
    (λ old new pushes. append_failed k before c.push_record.new.marks failed bytes old new pushes)
    (tells c.args.disk.now).file (tells c.push_record.new.disk).file c.in-Err.ensures.pushed
