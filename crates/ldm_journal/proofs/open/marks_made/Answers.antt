use Rattle.std.specs.Prelude.{Ok, Err}
use Rattle.std.proofs.Common.{◌≡◌, ℕ, List, length, subst, sym}
use Rattle.ldm_disk.specs.Told.{FileRecord, IsSettled}
use Rattle.ldm_disk.specs.Calls.{FileChanges}
use Rattle.ldm_journal.specs.declared.fault.JournalFault.TheVariants.{DiskFault}
use Rattle.ldm_journal.specs.Making.{Makes, first_marks}
use Rattle.ldm_journal.specs.Opening.{Opens}
use Rattle.ldm_disk.proofs.Told.{both, mapped}
use Rattle.ldm_journal.proofs.OpenWhole.{opened_made, opened_not_made}
use Rattle.ldm_journal.proofs.open.marks_made.Goals as goal

pub returns-in-Ok-clause-opened : goal.returns-in-Ok-clause-opened
returns-in-Ok-clause-opened g c =
    let tells = g.D.Disk.tells in
    let ring = c.args.ring in
    let done = c.in-Ok.field-0 in
    let old = (tells c.args.disk.now).file in
    let E = λ (f : FileRecord). 0 ≡ length f.bytes in
    let new = (tells c.make.new.disk).file in
    subst (λ (note : List ℕ). FileChanges (Opens (Ok (record (first_marks ring) { note = note })) ring) old new) (sym c.no_note.ensures)
    (mapped (λ f. IsSettled f × (0 ≡ length f.bytes)) (Makes (Ok done) ring) (Opens (Ok (first_marks ring)) ring) (λ a d s makes. opened_made done ring a d s makes) old new
    (both IsSettled E old c.requires.settled c.requires.empty) c.in-Ok.ensures.made)

pub returns-in-Err-clause-opened : goal.returns-in-Err-clause-opened
returns-in-Err-clause-opened g c =
    let tells = g.D.Disk.tells in
    let ring = c.args.ring in
    let failed = c.in-Err.field-0 in
    let old = (tells c.args.disk.now).file in
    let E = λ (f : FileRecord). 0 ≡ length f.bytes in
    mapped (λ f. IsSettled f × (0 ≡ length f.bytes)) (Makes (Err failed) ring) (Opens (Err DiskFault) ring) (λ a d s makes. opened_not_made failed ring a d s makes) old
    (tells c.make.new.disk).file (both IsSettled E old c.requires.settled c.requires.empty) c.in-Err.ensures.made
