use Rattle.std.specs.Prelude.{Ok}
use Rattle.ldm_disk.specs.Told.{IsConsistent}
use Rattle.ldm_disk.specs.Calls.{CutsFile, SyncsFile}
use Rattle.ldm_image.specs.Bodies.{IsBeing, Finishes}
use Rattle.ldm_disk.proofs.Told.{both, chained}
use Rattle.ldm_image.proofs.BodyLemmas.{finished}
use Rattle.ldm_image.proofs.body.finish.Goals as goal

pub returns-clause-finished : goal.returns-clause-finished
returns-clause-finished g c =
    let tells = g.D.Disk.tells in
    let file = (tells c.args.disk.now).file in
    let done = c.in_ok-cut.field-0 in
    chained (λ old. IsConsistent old × IsBeing c.args.len old) IsConsistent (CutsFile (Ok done) c.args.len) (SyncsFile c.sync.result) (Finishes c.sync.result c.args.len)
    (finished done c.sync.result c.args.len) file (tells c.cut.new.self).file (tells c.sync.new.self).file
    (both IsConsistent (IsBeing c.args.len) file (g.met.D.Disk.consistent c.args.disk.now) c.requires.being) (g.met.D.Disk.consistent c.cut.new.self)
    c.in_ok-cut.ensures.cut c.sync.ensures.synced
