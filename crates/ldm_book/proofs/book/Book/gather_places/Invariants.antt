use Rattle.std.proofs.Common.{◌≡◌, ◌≤◌, take}
use Rattle.std.specs.Prelude.{filter}
use Rattle.ldm_book.specs.Spans.{held_spans, is_some_part}
use Rattle.ldm_book.proofs.book.Book.gather_places.Given as goal

abbrev pub invariant-loop-place : goal.invariant-loop-place
invariant-loop-place l = record {
  known : take l.count l.spans
      ≡ filter is_some_part (take l.place (held_spans l.self.rows l.self.cursors l.self.reservations));
  few : l.count ≤ l.place;
}
