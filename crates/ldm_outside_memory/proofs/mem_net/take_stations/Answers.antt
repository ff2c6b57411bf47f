use Rattle.std.proofs.Common.{rules, ◌∙◌, sym}
use Rattle.std.proofs.lemmas.List.{drop-drop}
use Rattle.ldm_outside_memory.specs.MemNet.{first_station}
use Rattle.ldm_outside_memory.proofs.NetLemmas.{map-take-next}
use Rattle.ldm_outside_memory.proofs.mem_net.take_stations.Goals as goal

pub loop-preserved : goal.loop-preserved
loop-preserved c = record {
  len = search rules;
  room = search rules;
  taken = c.push_reserved.ensures.items ∙ rw (c.loop.invariant.taken, ← c.next_station.ensures.first, c.loop.invariant.rest) (sym (map-take-next first_station c.args.ready.now.items c.loop.counter));
  rest = rw (c.next_station.ensures.rest, c.loop.invariant.rest) (drop-drop 1 c.loop.counter c.args.ready.now.items);
}
