use Rattle.std.proofs.Common.{◌≡◌, ℕ, ◌++◌, List, ap, sym, ◌∙◌, arith}
use Rattle.std.specs.Prelude.{slice_get, map, Some}
use Rattle.std.proofs.lemmas.List.{append_assoc}
use Rattle.ldm_book.specs.Restoring.{note_of}
use Rattle.ldm_image.specs.Image.{eight}
use Rattle.ldm_image.specs.Bodies.{between_rows}
use Rattle.ldm_image.proofs.BodyLemmas.{row_gathered}
use Rattle.ldm_image.proofs.body.add_rows.Goals as goal

pub loop-next-preserved : goal.loop-next-preserved
loop-next-preserved c =
    let l = c.loop-next in
    let i = l.invariant in
    let put = c.put_row.ensures in
    let note = c.in-Some.note in
    let book = c.args.book.now in
    let old = c.args.piece.now.items in
    let row = eight note.n ++ eight note.time ++ eight note.place in
    let is : slice_get (map note_of book.rows) l.next ≡ Some note = sym c.row_at.ensures ∙ c.in-Some.is in (
      omega (arith, i.0),
      omega (arith, c.loop-next-test.true),
      put.items ∙ ap (λ (bytes : List ℕ). bytes ++ row) i.2 ∙ append_assoc old (between_rows c.args.first l.next book) row
          ∙ ap (λ (bytes : List ℕ). old ++ bytes) (sym (row_gathered book.rows c.args.first l.next note i.0 is)),
      omega (arith, put.len, i.3),
      omega (arith, put.capacity, i.4),
    )
