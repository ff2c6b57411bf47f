use Rattle.ldm_downstream.specs.Receives.{at_first}
use Rattle.ldm_chain.proofs.feeding.feed_next.Given as goal

abbrev pub ghosts-reflect : goal.ghosts-reflect
ghosts-reflect g a = record {
  begun = record { first = at_first a.asker.receiver.receiving a.lent.pass.now; now = a.self.now.moment; name = a.lent.pass.ghost_name };
}
