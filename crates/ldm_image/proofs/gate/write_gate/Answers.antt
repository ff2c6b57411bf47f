use Rattle.std.proofs.Common.{[], ◌∷◌}
use Rattle.ldm_disk.specs.Told.{IsConsistent, IsSettled}
use Rattle.ldm_disk.specs.Calls.{WritesFile, SyncsFile}
use Rattle.std.specs.Prelude.{Ok}
use Rattle.ldm_image.specs.Gates.{WritesGate}
use Rattle.ldm_image.specs.Image.{GATE}
use Rattle.ldm_disk.proofs.Told.{both, chained}
use Rattle.ldm_image.proofs.GateLemmas.{written}
use Rattle.ldm_image.proofs.gate.write_gate.Goals as goal

pub returns-clause-written : goal.returns-clause-written
returns-clause-written g c =
    let file = (g.D.Disk.tells c.args.disk.now).file in
    chained (λ old. IsConsistent old × IsSettled old) IsConsistent (WritesFile (Ok c.in_ok-write_at.field-0) GATE (c.args.gate ∷ [])) (SyncsFile c.sync.result)
    (WritesGate c.sync.result c.args.gate) (λ old mid new is at wrote sync. written c.in_ok-write_at.field-0 c.sync.result c.args.gate old mid new is wrote sync)
    file (g.D.Disk.tells c.write_at.new.self).file (g.D.Disk.tells c.sync.new.self).file
    (both IsConsistent IsSettled file (g.met.D.Disk.consistent c.args.disk.now) c.requires.settled)
    (g.met.D.Disk.consistent c.write_at.new.self) c.in_ok-write_at.ensures.written c.sync.ensures.synced
