use Rattle.ldm_pqstats.proofs.sending.hold.Goals as goal

pub returns-clause-holds : goal.returns-clause-holds
returns-clause-holds g c = record {
  left = g.N.Link.Link.tells c.put_hours-ending.new.link;
  runs = rw (← c.requires.all) c.put_hours-ending.ensures.runs;
  not_closed = c.put_hours-ending.ensures.still_open;
  given_back = c.give_back.ensures.given_back;
}
