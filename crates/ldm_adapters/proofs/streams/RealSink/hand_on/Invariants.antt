-- What was handed on stands in the writer, where it tells, and the rest is held.
use Rattle.std.proofs.Common.{◌≡◌, ◌-◌, ◌≤◌, drop, length}
use Rattle.std.specs.Io.KnownBytes.{append_known, Keeps}
use Rattle.ldm_adapters.proofs.streams.RealSink.hand_on.Given as goal

abbrev pub invariant-loop-at : goal.invariant-loop-at
invariant-loop-at g l = record {
  held : l.self.held.items ≡ l.initial.self.held.items;
  within : l.at ≤ length l.self.held.items;
  faults : l.self.faults ≡ l.initial.self.faults;
  all : Keeps (append_known (g.W.Write.contents l.initial.self.writer) l.initial.self.held.items) (append_known (g.W.Write.contents l.self.writer) (drop l.at l.self.held.items));
}

abbrev pub decreases-loop-at : goal.decreases-loop-at
decreases-loop-at g l = length l.self.held.items - l.at
