use Rattle.std.proofs.Common.{◌≡◌, ◌+◌, length}
use Rattle.ldm_rpc.proofs.CallerLemmas.{IsReading}
use Rattle.drive_values.specs.Places.{all_of, position_of}
use Rattle.drive_values.proofs.records.places.read_on.Given as goal

abbrev pub invariant-loop-rest : goal.invariant-loop-rest
invariant-loop-rest l = record {
  reads : IsReading (position_of l.initial.stream) l.piece (all_of l.initial.found.items) (position_of l.stream) l.rest (all_of l.found.items);
  limit : l.stream.records.limit ≡ l.initial.stream.records.limit;
  came : l.stream.came + length l.rest ≡ l.initial.stream.came + length l.piece;
}

abbrev pub decreases-loop-rest : goal.decreases-loop-rest
decreases-loop-rest l = length l.rest
