use Rattle.std.proofs.Common.{◌≡◌, ◌+◌, ◌-◌, ◌≤◌}
use Rattle.std.specs.Prelude.{IfSome}
use Rattle.ldm_disk.specs.Calls.{FileChanges, KeepsDisk, KeepsFile}
use Rattle.ldm_journal.proofs.OpenLemmas.{ReadSoFar}
use Rattle.ldm_journal.proofs.open.judge_records.Given as goal

abbrev pub invariant-loop-left : goal.invariant-loop-left
invariant-loop-left g l =
    let tells = g.D.Disk.tells in
    (l.left ≤ l.marks.used)
    × (l.at ≡ l.marks.front + (l.marks.used - l.left))
    × FileChanges KeepsFile (tells l.fn.disk).file (tells l.disk).file
    × KeepsDisk (tells l.fn.disk) (tells l.disk)
    × IfSome (tells l.fn.disk).file (λ f. ReadSoFar l.marks l.left l.next f.bytes)

abbrev pub decreases-loop-left : goal.decreases-loop-left
decreases-loop-left g l = l.left
