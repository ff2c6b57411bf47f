use Rattle.std.specs.Prelude.{Ok, Err}
use Rattle.ldm_disk.specs.Told.{IsConsistent}
use Rattle.ldm_disk.specs.Calls.{WritesFile, SyncsFile}
use Rattle.ldm_journal.specs.Making.{Lays, first_front}
use Rattle.ldm_disk.proofs.Told.{mapped, chained}
use Rattle.ldm_journal.proofs.MakeLemmas.{laid, not_laid}
use Rattle.ldm_journal.proofs.make.lay.Goals as goal

pub returns-in-Ok-clause-laid : goal.returns-in-Ok-clause-laid
returns-in-Ok-clause-laid g c =
    let tells = g.D.Disk.tells in
    let ring = c.args.ring in
    let done = c.in-Ok.field-0 in
    let result = c.sync.result in
    chained IsConsistent IsConsistent (WritesFile (Ok done) 0 (first_front ring)) (SyncsFile result) (Lays result ring)
    (λ old mid new s t wrote sync. laid result done ring old mid new s wrote sync) (tells c.args.disk.now).file (tells c.write_at.new.self).file (tells c.sync.new.self).file
    (g.met.D.Disk.consistent c.args.disk.now) (g.met.D.Disk.consistent c.write_at.new.self) (rw c.front_of-front.ensures at c.in-Ok.ensures.written) c.sync.ensures.synced

pub returns-in-Err-clause-laid : goal.returns-in-Err-clause-laid
returns-in-Err-clause-laid g c =
    let tells = g.D.Disk.tells in
    let ring = c.args.ring in
    let failed = c.in-Err.failed in
    mapped IsConsistent (WritesFile (Err failed) 0 (first_front ring)) (Lays (Err failed) ring) (λ old new s goes. not_laid failed ring old new s goes)
    (tells c.args.disk.now).file (tells c.write_at.new.self).file (g.met.D.Disk.consistent c.args.disk.now) (rw c.front_of-front.ensures at c.in-Err.ensures.written)
