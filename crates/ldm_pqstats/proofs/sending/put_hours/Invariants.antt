use Rattle.std.proofs.Common.{◌≡◌, ◌≤◌, take}
use Rattle.ldm_outside.specs.Link.{IsNotClosed}
use Rattle.ldm_pqstats.specs.Hours.{ends_tell}
use Rattle.ldm_pqstats.specs.Sending.{number_behind}
use Rattle.ldm_pqstats.proofs.Sent.{Goes}
use Rattle.ldm_pqstats.proofs.sending.put_hours.Given as goal

abbrev pub invariant-loop-hour : goal.invariant-loop-hour
invariant-loop-hour g l = record {
  goes : Goes l.stats (take l.hour-index l.hours) l.refused l.puts (ends_tell g.L.Link.tells g.K.Sink.tells g.C.Clock.tells l.fn.link l.fn.sink l.fn.clock)
      (ends_tell g.L.Link.tells g.K.Sink.tells g.C.Clock.tells l.link l.sink l.clock);
  faults : (g.L.Link.tells l.fn.link).faults ≤ (g.L.Link.tells l.link).faults;
  ends : (g.L.Link.tells l.fn.link).ends ≤ (g.L.Link.tells l.link).ends;
  sink : (g.K.Sink.tells l.fn.sink).faults ≤ (g.K.Sink.tells l.sink).faults;
  not_closed : IsNotClosed (g.L.Link.tells l.link);
  number : l.number ≡ number_behind (take l.hour-index l.hours) 0;
}
