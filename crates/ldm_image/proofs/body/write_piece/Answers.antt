use Rattle.std.proofs.Common.{◌∙◌}
use Rattle.std.specs.Prelude.{Ok, ◌+◌, length}
use Rattle.ldm_disk.specs.Told.{IsConsistent}
use Rattle.ldm_disk.specs.Calls.{WritesFile}
use Rattle.ldm_image.specs.Bodies.{IsBeing, WritesMore}
use Rattle.ldm_disk.proofs.Told.{both, mapped}
use Rattle.ldm_image.proofs.BodyLemmas.{more}
use Rattle.ldm_image.proofs.body.write_piece.Goals as goal

pub returns-clause-written : goal.returns-clause-written
returns-clause-written g c =
    let tells = g.D.Disk.tells in
    let file = (tells c.args.disk.now).file in
    let at = c.args.at in
    let piece = c.args.piece.now.items in
    let done = c.in_ok-write_at.field-0 in
    rw (c.len.ensures ∙ c.args.piece.now.ok.0)
    (mapped (λ old. IsConsistent old × IsBeing at old) (WritesFile (Ok done) at piece) (WritesMore (Ok (at + length piece)) at piece) (more done at piece) file
    (tells c.write_at.new.self).file (both IsConsistent (IsBeing at) file (g.met.D.Disk.consistent c.args.disk.now) c.requires.being)
    (rw c.deref.ensures.value at c.in_ok-write_at.ensures.written))
