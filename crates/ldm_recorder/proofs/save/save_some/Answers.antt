use Rattle.std.proofs.Common.{arith, refl}
use Rattle.ldm_recorder.proofs.Keeping.{nothing_to_commit}
use Rattle.ldm_recorder.proofs.save.save_some.Goals as goal

pub returns-then-appended-eq0-clause-saved : goal.returns-then-appended-eq0-clause-saved
returns-then-appended-eq0-clause-saved g c =
    let tells = g.D.Disk.tells in
    let journal = c.args.journal.now in (
      record {
        made =
            nothing_to_commit journal.marks (tells c.args.disk.now).file journal.sound.2 (omega (arith, c.appended.ensures, c.if-appended-eq0.true))
            (g.met.D.Disk.consistent c.args.disk.now);
        ring = refl;
        faults = omega arith;
      },
      refl,
    )
