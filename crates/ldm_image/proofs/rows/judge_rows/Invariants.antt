use Rattle.std.proofs.Common.{ℕ, List, ◌≡◌, ◌<◌, length}
use Rattle.ldm_book.specs.Restoring.{note_at}
use Rattle.ldm_image.specs.Rows.{AreFrom, HoldsTable, IsRowAt, IsRowLawful}
use Rattle.ldm_image.proofs.rows.judge_rows.Given as goal

abbrev pub invariant-loop-i : goal.invariant-loop-i
invariant-loop-i l =
    (length l.notes.items ≡ l.i)
    × ((file : List ℕ) → HoldsTable l.table l.sizes file →
    AreFrom l.number l.time l.i file × ((row : ℕ) → row < l.i → IsRowLawful file row × IsRowAt file row (note_at l.notes.items row)))
