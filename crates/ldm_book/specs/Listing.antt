-- A queued product as a book tells it.
use Rattle.ldm_model.specs.State.{Queued}
use Rattle.ldm_book.specs.declared.restoring.Stored.{Stored}

abbrev pub queued_of : Stored → Queued
queued_of p = record {
  number = p.note.n;
  product = record { info = p.info; body = p.body.now };
  time = p.note.time;
  place = p.note.place;
}
