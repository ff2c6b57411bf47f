use Rattle.std.proofs.Common.{◌<◌, arith}
use Rattle.std.specs.Prelude.{Ok}
use Rattle.ldm_disk.specs.Told.{IsConsistent}
use Rattle.ldm_image.specs.Bodies.{IsBeing, IsShut, WritesHead, Ends, WritesBody}
use Rattle.ldm_disk.proofs.Told.{chained, after_it}
use Rattle.ldm_image.proofs.BodyLemmas.{whole, head_is_being}
use Rattle.ldm_image.proofs.body.write_body.Goals as goal

pub write_arena-requires-clause-being : goal.write_arena-requires-clause-being
write_arena-requires-clause-being g c =
    let tells = g.D.Disk.tells in
    let at = c.in_ok-at.at in
    let book = c.args.book.now in
    let behind : 5 < at = omega (arith, c.in_ok-at.ensures.at) in
    after_it IsConsistent (IsBeing at) (WritesHead (Ok at) book) (λ old new consistent head. head_is_being book at old new consistent behind head)
    (tells c.args.disk.now).file (tells c.write_head.new.disk).file (g.met.D.Disk.consistent c.write_head.new.disk) c.in_ok-at.ensures.written

pub returns-clause-written : goal.returns-clause-written
returns-clause-written g c =
    let tells = g.D.Disk.tells in
    let file = (tells c.args.disk.now).file in
    let at = c.in_ok-at.at in
    let book = c.args.book.now in
    let result = c.write_arena.result in
    chained IsShut IsConsistent (WritesHead (Ok at) book) (Ends result at book.bytes) (WritesBody result book)
    (λ old mid new s consistent head ends. whole result at book old mid new consistent head ends) file (tells c.write_head.new.disk).file (tells c.write_arena.new.disk).file
    c.requires.shut (g.met.D.Disk.consistent c.write_head.new.disk) c.in_ok-at.ensures.written (rw c.bytes.ensures.value at c.write_arena.ensures.ended)
