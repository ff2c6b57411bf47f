use Rattle.std.proofs.Common.{◌<◌, ◌+◌, ◌-◌, ◌∙◌, refl, arith}
use Rattle.ldm_disk.proofs.Filled.{both_keep, none_keeps}
use Rattle.ldm_journal.proofs.DropLemmas as dropping
use Rattle.ldm_journal.proofs.commit.dropped_for.Goals as goal

pub loop-dropped-init : goal.loop-dropped-init
loop-dropped-init g c =
    let tells = g.D.Disk.tells in
    let marks = c.args.marks.now in (
      omega arith,
      none_keeps (tells c.args.disk.now).file,
      record { faults = omega arith; attached = refl },
      dropping.begins marks (marks.ring - c.args.gap) (tells c.args.disk.now).file (g.met.D.Disk.consistent c.args.disk.now),
    )

pub loop-dropped-preserved : goal.loop-dropped-preserved
loop-dropped-preserved g c =
    let tells = g.D.Disk.tells in
    let marks = c.args.marks.now in
    let l = c.loop-dropped in
    let i = l.invariant in
    let e = c.in-Ok.ensures in
    let more : marks.ring - c.args.gap < marks.used + marks.appended - l.dropped = omega arith in (
      omega (arith, e.within, i.0),
      both_keep (tells c.args.disk.now).file (tells l.disk).file (tells c.record_len.new.disk).file (g.met.D.Disk.consistent c.args.disk.now) (g.met.D.Disk.consistent l.disk) i.1
          c.record_len.ensures.file,
      record { faults = omega (arith, i.2.faults, c.record_len.ensures.kept.faults); attached = c.record_len.ensures.kept.attached ∙ i.2.attached },
      dropping.goes_on marks (marks.ring - c.args.gap) l.dropped c.in-Ok.len (tells c.args.disk.now).file (tells l.disk).file (g.met.D.Disk.consistent c.args.disk.now) i.1 i.0 more i.3 e.len,
    )

pub returns-in-Err-clause-found : goal.returns-in-Err-clause-found
returns-in-Err-clause-found g c =
    let tells = g.D.Disk.tells in
    let marks = c.args.marks.now in
    let l = c.loop-dropped in
    let i = l.invariant in
    let more : 0 < marks.used + marks.appended - l.dropped = omega arith in
    dropping.fails c.in-Err.fault marks c.args.gap (marks.ring - c.args.gap) l.dropped (tells c.args.disk.now).file (tells l.disk).file (g.met.D.Disk.consistent c.args.disk.now) i.1 i.0 more i.3
    c.in-Err.ensures.len

pub returns-clause-found : goal.returns-clause-found
returns-clause-found g c =
    let tells = g.D.Disk.tells in
    let marks = c.args.marks.now in
    let l = c.loop-dropped in
    let i = l.invariant in
    dropping.ends marks c.args.gap l.dropped (tells c.args.disk.now).file (g.met.D.Disk.consistent c.args.disk.now) i.0 (omega arith) i.3
