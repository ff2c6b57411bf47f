use Rattle.std.proofs.Common.{◌≡◌, ◌+◌, ◌-◌, ◌*◌, ◌<◌, ◌≤◌}
use Rattle.std.specs.Vec.{vec_len, vec_capacity}
use Rattle.ldm_disk.specs.Calls.{FileChanges, KeepsDisk}
use Rattle.ldm_image.specs.declared.body.TheConstants.{PIECE, ROW}
use Rattle.ldm_image.specs.Bodies.{IsWriting}
use Rattle.ldm_image.proofs.body.write_head.Given as goal

abbrev pub invariant-loop-next : goal.invariant-loop-next
invariant-loop-next g l =
    let tells = g.D.Disk.tells in
    (FileChanges (IsWriting l.book l.next l.at l.piece.items) (tells l.fn.disk).file (tells l.disk).file)
    × (l.at + vec_len l.piece ≡ 48 + 24 * l.next)
    × (5 < l.at)
    × (l.next ≤ l.count)
    × (PIECE + ROW ≤ vec_capacity l.piece)
    × KeepsDisk (tells l.fn.disk) (tells l.disk)

abbrev pub decreases-loop-next : goal.decreases-loop-next
decreases-loop-next g l = l.count - l.next
