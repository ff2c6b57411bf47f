use Rattle.ldm_model.proofs.Insertions.{insertions}
use Rattle.ldm_model.proofs.laws.histories_are_lawful.Goals as goal

pub returns : goal.returns
returns c = λ arena slots history legal. record {
  legal = legal;
  readers = c.every_reader_is_served.ensures.obeys_law arena slots history legal;
  reservations = c.reservations_are_filled.ensures arena slots history legal;
  insertions = insertions arena slots (c.histories_append.ensures.legal arena slots) (c.histories_append.ensures.state arena slots) c.evictions_make_room.ensures.locked history legal;
}
