use Rattle.std.proofs.Common.{◌≡◌, ◌≤◌, take, drop, map, vec_len, vec_capacity}
use Rattle.ldm_outside_memory.specs.MemNet.{first_station}
use Rattle.ldm_outside_memory.proofs.mem_net.take_stations.Given as goal

abbrev pub invariant-loop : goal.invariant-loop
invariant-loop l = record {
  len : vec_len l.stations ≡ l.counter;
  room : l.count ≤ vec_capacity l.stations;
  taken : l.stations.items ≡ map first_station (take l.counter l.initial.ready.items);
  rest : l.ready.items ≡ drop l.counter l.initial.ready.items;
}
