use Rattle.std.proofs.Common.{◌≡◌, ◌*◌, ◌+◌, ◌-◌, ◌≤◌, length, false}
use Rattle.std.specs.Prelude.{if◌then◌else◌}
use Rattle.ldm_outside.specs.Link.{IsNotClosed}
use Rattle.ldm_wmo.specs.Scanning.{is_complete, is_outside}
use Rattle.ldm_wmo.specs.Ingesting.{ingesting}
use Rattle.ldm_wmo.specs.Parts.{KeepsHands, hands_tell, tellers}
use Rattle.ldm_wmo.proofs.Pieces.{TakesFront}
use Rattle.ldm_wmo.proofs.taking.take_piece.Given as goal

abbrev pub invariant-loop-at : goal.invariant-loop-at
invariant-loop-at g l = record {
  within : l.at ≤ length l.piece;
  front : TakesFront (ingesting l.ingestion) l.met l.fn.scanner l.scanner l.piece l.at
      (hands_tell (tellers g.L.Link.tells g.K.Sink.tells g.E.Sink.tells g.C.Clock.tells) l.fn.puts l.fn.link l.fn.sink l.fn.log l.fn.clock)
      (hands_tell (tellers g.L.Link.tells g.K.Sink.tells g.E.Sink.tells g.C.Clock.tells) l.puts l.link l.sink l.log l.clock);
  ready : is_complete l.scanner ≡ false;
  kept : KeepsHands (hands_tell (tellers g.L.Link.tells g.K.Sink.tells g.E.Sink.tells g.C.Clock.tells) l.fn.puts l.fn.link l.fn.sink l.fn.log l.fn.clock)
      (hands_tell (tellers g.L.Link.tells g.K.Sink.tells g.E.Sink.tells g.C.Clock.tells) l.puts l.link l.sink l.log l.clock);
  not_closed : IsNotClosed (g.L.Link.tells l.link);
}

abbrev pub decreases-loop-at : goal.decreases-loop-at
decreases-loop-at g l = 2 * (length l.piece - l.at) + (if is_outside l.scanner then 0 else 1)
