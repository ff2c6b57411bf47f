use Rattle.ldm_between_ends.proofs.passing_laws.streams_are_read.Goals as goal

pub returns : goal.returns
returns c = record {
  taken = c.records_are_read.ensures.taken;
  records = c.records_are_read.ensures.records;
  hand = c.records_are_read.ensures.in_hand;
  joins = c.pieces_join.ensures.taken;
  pushed = c.pushes_read_the_stream.ensures.records;
  pushed_hand = c.pushes_read_the_stream.ensures.in_hand;
}
