use Rattle.std.specs.Prelude.{Ok, ◌+◌, length}
use Rattle.ldm_disk.specs.Told.{IsConsistent}
use Rattle.ldm_disk.specs.Calls.{WritesFile}
use Rattle.ldm_image.specs.Bodies.{IsBeing, Finishes, Ends}
use Rattle.ldm_disk.proofs.Told.{both, chained, after_both}
use Rattle.ldm_image.proofs.BodyLemmas.{ended, written_is_being}
use Rattle.ldm_image.proofs.body.write_arena.Goals as goal

pub returns-clause-ended : goal.returns-clause-ended
returns-clause-ended g c =
    let tells = g.D.Disk.tells in
    let file = (tells c.args.disk.now).file in
    let at = c.args.at in
    let arena = c.args.arena.now in
    let done = c.in_ok-write_at.field-0 in
    let result = c.finish.result in
    chained (λ old. IsConsistent old × IsBeing at old) IsConsistent (WritesFile (Ok done) at arena) (Finishes result (at + length arena)) (Ends result at arena)
    (ended done result at arena) file (tells c.write_at.new.self).file (tells c.finish.new.disk).file
    (both IsConsistent (IsBeing at) file (g.met.D.Disk.consistent c.args.disk.now) c.requires.being) (g.met.D.Disk.consistent c.write_at.new.self)
    c.in_ok-write_at.ensures.written c.finish.ensures.finished

pub finish-requires : goal.finish-requires
finish-requires g c =
    let tells = g.D.Disk.tells in
    let file = (tells c.args.disk.now).file in
    let at = c.args.at in
    let arena = c.args.arena.now in
    let done = c.in_ok-write_at.field-0 in
    record {
      being = after_both (λ old. IsConsistent old × IsBeing at old) IsConsistent (IsBeing (at + length arena)) (WritesFile (Ok done) at arena)
          (λ old new s u wrote. written_is_being done at arena old new s u wrote) file (tells c.write_at.new.self).file
          (both IsConsistent (IsBeing at) file (g.met.D.Disk.consistent c.args.disk.now) c.requires.being) (g.met.D.Disk.consistent c.write_at.new.self)
          c.in_ok-write_at.ensures.written;
    }
