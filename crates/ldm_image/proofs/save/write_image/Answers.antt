use Rattle.std.proofs.Common.{◌∙◌}
use Rattle.std.specs.Prelude.{Ok}
use Rattle.ldm_disk.specs.Told.{IsConsistent, IsSettled}
use Rattle.ldm_image.specs.Gates.{WritesGate, WritesUnclean, WritesImage}
use Rattle.ldm_disk.proofs.Told.{chained, after}
use Rattle.ldm_image.proofs.SaveLemmas.{marked}
use Rattle.ldm_image.proofs.save.write_image.Goals as goal

pub write_gate-requires : goal.write_gate-requires
write_gate-requires g c =
    let tells = g.D.Disk.tells in
    let done = c.in_ok-write_unclean.field-0 in
    let book = c.args.book.now in
    record {
      attached = c.in_ok-write_unclean.ensures.kept.attached ∙ c.requires.ready.attached;
      settled = after IsSettled IsSettled (WritesUnclean (Ok done) book) (λ old new s wrote. wrote.1) (tells c.args.disk.now).file (tells c.write_unclean.new.disk).file
          c.requires.ready.settled c.in_ok-write_unclean.ensures.written;
    }

pub returns-clause-written : goal.returns-clause-written
returns-clause-written g c =
    let tells = g.D.Disk.tells in
    let done = c.in_ok-write_unclean.field-0 in
    let book = c.args.book.now in
    let result = c.write_gate.result in
    chained IsSettled IsConsistent (WritesUnclean (Ok done) book) (WritesGate result 1) (WritesImage result book)
    (λ old mid new s t wrote gate. marked done result book old mid new wrote gate) (tells c.args.disk.now).file (tells c.write_unclean.new.disk).file
    (tells c.write_gate.new.disk).file c.requires.ready.settled (g.met.D.Disk.consistent c.write_unclean.new.disk) c.in_ok-write_unclean.ensures.written
    c.write_gate.ensures.written
