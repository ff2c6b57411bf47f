use Rattle.std.proofs.Common.{◌-◌, ◌≡◌, ◌≤◌, false, length}
use Rattle.ldm_outside.specs.Link.{IsNotClosed}
use Rattle.ldm_session.specs.declared.limits.TheConstants.{LONGEST_STREAM}
use Rattle.ldm_status.specs.declared.streams.TheConstants.{PIECE}
use Rattle.ldm_wmo.specs.Scanning.{is_complete}
use Rattle.ldm_wmo.specs.Ingesting.{ingesting}
use Rattle.ldm_wmo.specs.Parts.{KeepsOver, over_tells, tellers}
use Rattle.ldm_wmo.proofs.Stream.{Goes}
use Rattle.ldm_wmo.proofs.streaming.take_pieces.Given as goal

abbrev pub invariant-loop-came : goal.invariant-loop-came
invariant-loop-came g l = record {
  goes : Goes (ingesting l.ingestion) l.met l.scanner l.puts l.came
      (over_tells g.S.Source.tells (tellers g.L.Link.tells g.K.Sink.tells g.E.Sink.tells g.C.Clock.tells) l.fn.source l.fn.link l.fn.sink l.fn.log l.fn.clock)
      (over_tells g.S.Source.tells (tellers g.L.Link.tells g.K.Sink.tells g.E.Sink.tells g.C.Clock.tells) l.source l.link l.sink l.log l.clock);
  kept : KeepsOver (over_tells g.S.Source.tells (tellers g.L.Link.tells g.K.Sink.tells g.E.Sink.tells g.C.Clock.tells) l.fn.source l.fn.link l.fn.sink l.fn.log l.fn.clock)
      (over_tells g.S.Source.tells (tellers g.L.Link.tells g.K.Sink.tells g.E.Sink.tells g.C.Clock.tells) l.source l.link l.sink l.log l.clock);
  ready : is_complete l.scanner ≡ false;
  most : l.came ≤ LONGEST_STREAM;
  room : length l.buffer ≡ PIECE;
  not_closed : IsNotClosed (g.L.Link.tells l.link);
}

abbrev pub decreases-loop-came : goal.decreases-loop-came
decreases-loop-came g l = LONGEST_STREAM - l.came
