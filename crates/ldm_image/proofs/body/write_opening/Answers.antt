use Rattle.std.proofs.Common.{[], ◌∷◌}
use Rattle.ldm_disk.specs.Told.{IsConsistent}
use Rattle.ldm_disk.specs.Calls.{WritesFile}
use Rattle.ldm_image.specs.Bodies.{IsShut, Begins}
use Rattle.ldm_disk.proofs.Told.{both, mapped}
use Rattle.ldm_image.proofs.BodyLemmas.{begun}
use Rattle.ldm_image.proofs.body.write_opening.Goals as goal

pub returns-clause-begun : goal.returns-clause-begun
returns-clause-begun g c =
    let tells = g.D.Disk.tells in
    let file = (tells c.args.disk.now).file in
    let result = c.write_at.result in
    mapped (λ old. IsConsistent old × IsShut old) (WritesFile result 0 (76 ∷ 68 ∷ 77 ∷ 81 ∷ 1 ∷ [])) (Begins result) (begun result) file (tells c.write_at.new.self).file
    (both IsConsistent IsShut file (g.met.D.Disk.consistent c.args.disk.now) c.requires.shut) c.write_at.ensures.written
