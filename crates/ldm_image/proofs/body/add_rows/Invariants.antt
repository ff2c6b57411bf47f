use Rattle.std.proofs.Common.{◌≡◌, ◌+◌, ◌-◌, ◌*◌, ◌≤◌, ◌++◌}
use Rattle.std.specs.Vec.{vec_len, vec_capacity}
use Rattle.ldm_image.specs.declared.body.TheConstants.{PIECE, ROW}
use Rattle.ldm_image.specs.Bodies.{between_rows}
use Rattle.ldm_image.proofs.body.add_rows.Given as goal

abbrev pub invariant-loop-next : goal.invariant-loop-next
invariant-loop-next l =
    (l.first ≤ l.next)
    × (l.next ≤ l.count)
    × (l.piece.items ≡ l.fn.piece.items ++ between_rows l.first l.next l.book)
    × (vec_len l.piece + 24 * l.first ≡ vec_len l.fn.piece + 24 * l.next)
    × (PIECE + ROW ≤ vec_capacity l.piece)

abbrev pub decreases-loop-next : goal.decreases-loop-next
decreases-loop-next l = l.count - l.next
