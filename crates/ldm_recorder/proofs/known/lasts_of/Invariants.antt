use Rattle.std.proofs.Common.{◌≡◌, length}
use Rattle.ldm_recorder.specs.declared.line.TheConstants.{MOST_LINES}
use Rattle.ldm_recorder.proofs.Knowing.{BeginSome}
use Rattle.ldm_recorder.proofs.known.lasts_of.Given as goal

abbrev pub invariant-loop-i : goal.invariant-loop-i
invariant-loop-i l = record { many : length l.lasts ≡ MOST_LINES; begin : BeginSome l.lines l.i l.lasts }
