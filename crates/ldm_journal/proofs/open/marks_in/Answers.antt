use Rattle.std.specs.Prelude.{Err}
use Rattle.ldm_disk.specs.Told.{IsConsistent, IsSettled}
use Rattle.ldm_disk.specs.Calls.{KeepsFile}
use Rattle.ldm_journal.specs.declared.fault.JournalFault.TheVariants.{DiskFault}
use Rattle.ldm_journal.specs.Opening.{Opens}
use Rattle.ldm_disk.proofs.Told.{both, mapped, chained}
use Rattle.ldm_journal.proofs.OpenWhole.{opens_later, not_measured}
use Rattle.ldm_journal.proofs.open.marks_in.Goals as goal

pub returns-in-Ok-clause-opened : goal.returns-in-Ok-clause-opened
returns-in-Ok-clause-opened g c =
    let tells = g.D.Disk.tells in
    let ring = c.args.ring in
    let result = c.marks_by.result in
    let old = (tells c.args.disk.now).file in
    chained (λ f. IsConsistent f × IsSettled f) IsConsistent KeepsFile (Opens result ring) (Opens result ring)
    (λ a b d s t keeps opens. opens_later result ring a b d s keeps opens) old (tells c.len.new.self).file (tells c.marks_by.new.disk).file
    (both IsConsistent IsSettled old (g.met.D.Disk.consistent c.args.disk.now) c.requires.settled) (g.met.D.Disk.consistent c.len.new.self) c.len.ensures.file
    c.marks_by.ensures.opened

pub returns-in-Err-clause-opened : goal.returns-in-Err-clause-opened
returns-in-Err-clause-opened g c =
    let tells = g.D.Disk.tells in
    let ring = c.args.ring in
    let old = (tells c.args.disk.now).file in
    mapped (λ f. IsConsistent f × IsSettled f) KeepsFile (Opens (Err DiskFault) ring) (λ a d s keeps. not_measured ring a d s keeps) old (tells c.len.new.self).file
    (both IsConsistent IsSettled old (g.met.D.Disk.consistent c.args.disk.now) c.requires.settled) c.len.ensures.file
