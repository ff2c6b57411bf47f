use Rattle.std.proofs.Common.{◌≡◌, ◌≤◌, ◌-◌, false}
use Rattle.ldm_types.specs.declared.limits.TheConstants.{GREATEST_INSTANT}
use Rattle.ldm_tools.specs.Mon.{KeepsMonCounts, mon_tells}
use Rattle.ldm_tools.specs.Every.{moment_of}
use Rattle.ldm_tools.proofs.Going.{GoesOn}
use Rattle.ldm_tools.proofs.every.pqmon_every.Given as goal

abbrev pub invariant-loop-alloc : goal.invariant-loop-alloc
invariant-loop-alloc g l = record {
  goes : GoesOn (record { host = l.host; port = l.port }) l.seconds l.instant
      (moment_of (mon_tells g.N.Dial.tells g.K.Sink.tells g.E.Sink.tells l.fn.net l.fn.sink l.fn.log) (g.C.Clock.tells l.fn.clock))
      (moment_of (mon_tells g.N.Dial.tells g.K.Sink.tells g.E.Sink.tells l.net l.sink l.log) (g.C.Clock.tells l.clock));
  kept : KeepsMonCounts (mon_tells g.N.Dial.tells g.K.Sink.tells g.E.Sink.tells l.fn.net l.fn.sink l.fn.log)
      (mon_tells g.N.Dial.tells g.K.Sink.tells g.E.Sink.tells l.net l.sink l.log);
  none_out : (g.N.Dial.tells l.net).links.out ≡ false;
  an_instant : l.instant ≤ GREATEST_INSTANT;
}

abbrev pub decreases-loop-alloc : goal.decreases-loop-alloc
decreases-loop-alloc g l = GREATEST_INSTANT - l.instant
