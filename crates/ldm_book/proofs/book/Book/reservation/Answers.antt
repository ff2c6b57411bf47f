use Rattle.std.proofs.Common.{sym, ap, arith}
use Rattle.ldm_book.specs.View.{BookView}
use Rattle.ldm_book.specs.Reserved.{kept_place, reservation_of}
use Rattle.ldm_book.proofs.BookLemmas.{place_lies, place_part}
use Rattle.ldm_book.proofs.book.Book.reservation.Goals as goal

pub returns-clause-part : goal.returns-clause-part
returns-clause-part c = place_part c.self.inside c.self.invariant c.args.r (reservation_of (kept_place c.in_ok-place.place)) (sym c.in_ok-place.ensures.at)

pub returns-clause-within : goal.returns-clause-within
returns-clause-within c =
    omega (arith, place_lies c.self.inside c.self.invariant c.args.r (reservation_of (kept_place c.in_ok-place.place)) (sym c.in_ok-place.ensures.at), ap (λ (b : BookView). b.arena) c.self.view_is)
