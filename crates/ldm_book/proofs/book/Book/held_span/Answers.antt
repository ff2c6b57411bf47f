use Rattle.std.proofs.Common.{sym, arith}
use Rattle.ldm_book.specs.Products.{at_number}
use Rattle.ldm_book.specs.RowKept.{row_kept}
use Rattle.ldm_book.proofs.FoundLemmas.{lie_found}
use Rattle.ldm_book.proofs.book.Book.held_span.Goals as goal

pub overflow_add-result : goal.overflow_add-result
overflow_add-result c =
    omega (
      arith,
      lie_found c.self.inside.products.arena (at_number c.in-Some-held_at.n) c.self.inside.products.rows c.self.inside.products.reservations
          (row_kept c.in-Some-first_row.row) c.self.invariant.apart (sym c.in-Some-first_row.ensures.first),
      c.extent.ensures,
      c.self.invariant.arena,
      c.self.invariant.arena_small,
    )
