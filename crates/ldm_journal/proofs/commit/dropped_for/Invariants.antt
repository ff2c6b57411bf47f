use Rattle.std.proofs.Common.{◌+◌, ◌-◌, ◌≤◌}
use Rattle.std.specs.Prelude.{IfSome}
use Rattle.ldm_disk.specs.Calls.{FileChanges, KeepsDisk, KeepsFile}
use Rattle.ldm_journal.proofs.DropLemmas.{SoFar}
use Rattle.ldm_journal.proofs.commit.dropped_for.Given as goal

abbrev pub invariant-loop-dropped : goal.invariant-loop-dropped
invariant-loop-dropped g l =
    let tells = g.D.Disk.tells in
    (l.dropped ≤ l.marks.used + l.marks.appended)
    × FileChanges KeepsFile (tells l.fn.disk).file (tells l.disk).file
    × KeepsDisk (tells l.fn.disk) (tells l.disk)
    × IfSome (tells l.fn.disk).file (SoFar l.marks (l.marks.ring - l.gap) l.dropped)

abbrev pub decreases-loop-dropped : goal.decreases-loop-dropped
decreases-loop-dropped g l = l.marks.used + l.marks.appended - l.dropped
