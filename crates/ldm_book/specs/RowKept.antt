-- A row of the queue as it is kept.
use Rattle.std.specs.Borrow.{Bor}
use Rattle.ldm_book.specs.declared.row.Row.{Row}
use Rattle.ldm_book.specs.View.{Kept}

abbrev pub kept_row : Row → Kept
kept_row row = record {
  number = row.n;
  time = row.time;
  place = row.place;
  signature = row.signature.0;
  feed = row.feed.0;
  head = row.head;
  size = row.size;
}

-- behind a reference
abbrev pub row_kept : Bor Row → Kept
row_kept row = kept_row row.now
