use Rattle.std.proofs.Common.{length}
use Rattle.ldm_book.specs.Readers.{unheld_numbers}
use Rattle.ldm_book.proofs.RoomLemmas.{Evicted}
use Rattle.ldm_book.proofs.book.Book.make_room.Given as goal

abbrev pub invariant-loop-n : goal.invariant-loop-n
invariant-loop-n l = Evicted l.fn.self l.self l.need l.from l.evicted

abbrev pub decreases-loop-n : goal.decreases-loop-n
decreases-loop-n l = length (unheld_numbers l.self)
