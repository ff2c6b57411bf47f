use Rattle.std.proofs.Common.{◌≡◌, take}
use Rattle.ldm_outside.specs.Link.{IsNotClosed}
use Rattle.ldm_tools.specs.Inserting.{inserting}
use Rattle.ldm_tools.specs.Moments.{KeepsHands, hands_tell}
use Rattle.ldm_tools.proofs.Running.{Goes}
use Rattle.ldm_tools.proofs.taking.take_files.Given as goal

abbrev pub invariant-loop-path : goal.invariant-loop-path
invariant-loop-path g l = record {
  goes : Goes (inserting l.insertion) (take l.path-index (inserting l.insertion).files) l.refused l.puts
      (hands_tell g.F.Store.tells g.L.Link.tells g.K.Sink.tells g.C.Clock.tells l.fn.store l.fn.link l.fn.sink l.fn.clock)
      (hands_tell g.F.Store.tells g.L.Link.tells g.K.Sink.tells g.C.Clock.tells l.store l.link l.sink l.clock);
  kept : KeepsHands (hands_tell g.F.Store.tells g.L.Link.tells g.K.Sink.tells g.C.Clock.tells l.fn.store l.fn.link l.fn.sink l.fn.clock)
      (hands_tell g.F.Store.tells g.L.Link.tells g.K.Sink.tells g.C.Clock.tells l.store l.link l.sink l.clock);
  not_closed : IsNotClosed (g.L.Link.tells l.link);
  number : l.number ≡ l.path-index;
}
