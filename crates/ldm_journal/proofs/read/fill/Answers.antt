use Rattle.std.proofs.Common.{◌≡◌, ◌-◌, length, ◌∙◌, arith}
use Rattle.ldm_disk.proofs.Filled.{both_keep}
use Rattle.ldm_disk.proofs.Filled.{filled_more}
use Rattle.ldm_journal.proofs.read.fill.Goals as goal

pub loop-done-preserved : goal.loop-done-preserved
loop-done-preserved g c =
    let tells = g.D.Disk.tells in
    let l = c.loop-done in
    let i = l.invariant in
    let n = c.in-Bytes.n in
    let rest = c.read.new.into in
    let given = c.in-Bytes.ensures.given in
    let long : length rest ≡ length l.into - l.done = omega arith in (
      omega (arith, i.0, given.0, long),
      omega (arith, i.1),
      filled_more l.into rest c.args.at l.done n i.0 long given.0 (tells c.args.disk.now).file (tells l.disk).file i.2 i.3 given.2,
      both_keep (tells c.args.disk.now).file (tells l.disk).file (tells c.read.new.self).file (g.met.D.Disk.consistent c.args.disk.now) (g.met.D.Disk.consistent l.disk) i.3
          c.read.ensures.file,
      record { faults = omega (arith, i.4.faults, c.read.ensures.kept.faults); attached = c.read.ensures.kept.attached ∙ i.4.attached },
    )
