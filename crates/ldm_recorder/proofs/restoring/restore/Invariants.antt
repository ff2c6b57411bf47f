use Rattle.std.proofs.Common.{◌+◌, ◌≤◌}
use Rattle.ldm_disk.specs.Calls.{FileChanges, KeepsDisk, KeepsFile}
use Rattle.ldm_journal.specs.declared.places.TheConstants.{LARGEST_RING}
use Rattle.ldm_shared.specs.Passes.{IsSamePass}
use Rattle.ldm_recorder.proofs.PuttingBack.{RestoresSome, asked}
use Rattle.ldm_recorder.proofs.restoring.restore.Given as goal

abbrev pub invariant-loop : goal.invariant-loop
invariant-loop g l =
    let tells = g.D.Disk.tells in
    IsSamePass l.initial.pass l.pass
    × FileChanges KeepsFile (tells l.initial.disk).file (tells l.disk).file
    × KeepsDisk (tells l.initial.disk) (tells l.disk)
    × (l.count + l.reader.left ≤ LARGEST_RING)
    × RestoresSome l.count l.journal.marks l.reader (tells l.initial.disk).file (asked l.lines l.lasts) l.initial.pass l.pass
