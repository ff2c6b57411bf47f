use Rattle.std.proofs.Common.{sym, arith}
use Rattle.ldm_book.specs.Reserved.{kept_place, reservation_of}
use Rattle.ldm_book.proofs.BookLemmas.{place_lies}
use Rattle.ldm_book.proofs.book.Book.reserved_span.Goals as goal

pub overflow_add-result : goal.overflow_add-result
overflow_add-result c =
    omega (
      arith,
      place_lies c.self.inside c.self.invariant c.in-Some.r (reservation_of (kept_place c.in-Some-reservation.held))
          (sym c.in-Some-reservation.ensures.at),
      c.extent.ensures,
      c.self.invariant.arena_small,
    )
