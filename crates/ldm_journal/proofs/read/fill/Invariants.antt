use Rattle.std.proofs.Common.{length, ◌-◌, ◌≡◌, ◌≤◌, take, drop}
use Rattle.std.specs.Prelude.{IfSome}
use Rattle.ldm_disk.specs.Calls.{FileChanges, KeepsDisk, KeepsFile}
use Rattle.ldm_journal.proofs.read.fill.Given as goal

abbrev pub invariant-loop-done : goal.invariant-loop-done
invariant-loop-done g l =
    let tells = g.D.Disk.tells in
    (l.done ≤ length l.into)
    × (length l.into ≡ length l.initial.into)
    × IfSome (tells l.fn.disk).file (λ file. take l.done l.into ≡ take l.done (drop l.at file.bytes))
    × FileChanges KeepsFile (tells l.fn.disk).file (tells l.disk).file
    × KeepsDisk (tells l.fn.disk) (tells l.disk)

abbrev pub decreases-loop-done : goal.decreases-loop-done
decreases-loop-done g l = length l.into - l.done
