use Rattle.std.specs.Prelude.{Ok, Err, ◌+◌}
use Rattle.ldm_disk.specs.Told.{IsConsistent}
use Rattle.ldm_disk.specs.Calls.{CutsFile, SyncsFile}
use Rattle.ldm_journal.specs.declared.places.TheConstants.{RING}
use Rattle.ldm_journal.specs.Making.{Widens}
use Rattle.ldm_disk.proofs.Told.{mapped, chained}
use Rattle.ldm_journal.proofs.MakeLemmas.{widened, not_widened}
use Rattle.ldm_journal.proofs.make.widen.Goals as goal

pub returns-in-Ok-clause-widened : goal.returns-in-Ok-clause-widened
returns-in-Ok-clause-widened g c =
    let tells = g.D.Disk.tells in
    let ring = c.args.ring in
    let done = c.in-Ok.field-0 in
    let result = c.sync.result in
    chained IsConsistent IsConsistent (CutsFile (Ok done) (RING + ring)) (SyncsFile result) (Widens result ring)
    (λ old mid new s t cut sync. widened result done ring old mid new c.requires.some s t cut sync) (tells c.args.disk.now).file (tells c.cut.new.self).file (tells c.sync.new.self).file
    (g.met.D.Disk.consistent c.args.disk.now) (g.met.D.Disk.consistent c.cut.new.self) c.in-Ok.ensures.cut c.sync.ensures.synced

pub returns-in-Err-clause-widened : goal.returns-in-Err-clause-widened
returns-in-Err-clause-widened g c =
    let tells = g.D.Disk.tells in
    let ring = c.args.ring in
    let failed = c.in-Err.failed in
    mapped IsConsistent (CutsFile (Err failed) (RING + ring)) (Widens (Err failed) ring) (λ old new s goes. not_widened failed ring old new c.requires.some s goes)
    (tells c.args.disk.now).file (tells c.cut.new.self).file (g.met.D.Disk.consistent c.args.disk.now) c.in-Err.ensures.cut
