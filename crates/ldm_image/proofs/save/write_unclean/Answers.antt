use Rattle.std.specs.Prelude.{Ok}
use Rattle.ldm_disk.specs.Told.{IsConsistent, IsSettled}
use Rattle.ldm_image.specs.Gates.{Shuts, WritesUnclean}
use Rattle.ldm_image.specs.Bodies.{IsShut, WritesBody}
use Rattle.ldm_disk.proofs.Told.{chained, after}
use Rattle.ldm_image.proofs.SaveLemmas.{is_shut, unclean}
use Rattle.ldm_image.proofs.save.write_unclean.Goals as goal

pub write_body-requires-clause-shut : goal.write_body-requires-clause-shut
write_body-requires-clause-shut g c =
    let tells = g.D.Disk.tells in
    let done = c.in_ok-shut_gate.field-0 in
    after IsSettled IsShut (Shuts (Ok done)) (λ old new s shuts. is_shut done old new shuts) (tells c.args.disk.now).file (tells c.shut_gate.new.disk).file
    c.requires.ready.settled c.in_ok-shut_gate.ensures.shut

pub returns-clause-written : goal.returns-clause-written
returns-clause-written g c =
    let tells = g.D.Disk.tells in
    let done = c.in_ok-shut_gate.field-0 in
    let book = c.args.book.now in
    let result = c.write_body.result in
    chained IsSettled IsConsistent (Shuts (Ok done)) (WritesBody result book) (WritesUnclean result book)
    (λ old mid new s t shuts body. unclean done result book old mid new shuts body) (tells c.args.disk.now).file (tells c.shut_gate.new.disk).file
    (tells c.write_body.new.disk).file c.requires.ready.settled (g.met.D.Disk.consistent c.shut_gate.new.disk) c.in_ok-shut_gate.ensures.shut
    c.write_body.ensures.written
