use Rattle.std.specs.Prelude.{Ok, Err}
use Rattle.ldm_disk.specs.Told.{IsConsistent}
use Rattle.ldm_disk.specs.Calls.{WritesFile, SyncsFile}
use Rattle.ldm_journal.specs.Format.{place_of}
use Rattle.ldm_journal.specs.Committing.{WritesHead, head_bytes_of}
use Rattle.ldm_disk.proofs.Told.{mapped, chained}
use Rattle.ldm_journal.proofs.CommitLemmas.{head_written, head_failed}
use Rattle.ldm_journal.proofs.commit.write_head.Goals as goal

pub returns-in-Ok-clause-written : goal.returns-in-Ok-clause-written
returns-in-Ok-clause-written g c =
    let tells = g.D.Disk.tells in
    let next = c.args.next.now in
    let done = c.in-Ok.field-0 in
    let result = c.sync.result in
    chained IsConsistent IsConsistent (WritesFile (Ok done) (place_of next.odd) (head_bytes_of next)) (SyncsFile result) (WritesHead result next)
    (λ old mid new s t wrote sync. head_written result done next c.requires old mid new s wrote sync) (tells c.args.disk.now).file (tells c.write_at.new.self).file (tells c.sync.new.self).file
    (g.met.D.Disk.consistent c.args.disk.now) (g.met.D.Disk.consistent c.write_at.new.self)
    (rw (c.place_of.ensures, c.head_of-head.ensures) at c.in-Ok.ensures.written) c.sync.ensures.synced

pub returns-in-Err-clause-written : goal.returns-in-Err-clause-written
returns-in-Err-clause-written g c =
    let tells = g.D.Disk.tells in
    let next = c.args.next.now in
    let failed = c.in-Err.failed in
    mapped IsConsistent (WritesFile (Err failed) (place_of next.odd) (head_bytes_of next)) (WritesHead (Err failed) next)
    (λ old new s goes. head_failed failed next c.requires old new s goes) (tells c.args.disk.now).file (tells c.write_at.new.self).file
    (g.met.D.Disk.consistent c.args.disk.now) (rw (c.place_of.ensures, c.head_of-head.ensures) at c.in-Err.ensures.written)
