-- A write that a signal interrupts appends nothing.
use Rattle.std.specs.Io.KnownBytes.{Keeps}
use Rattle.ldm_adapters.proofs.streams.write_uninterrupted.Given as goal

abbrev pub invariant-loop : goal.invariant-loop
invariant-loop g l = Keeps (g.W.Write.contents l.initial.writer) (g.W.Write.contents l.writer)
