use Rattle.std.proofs.Common.{◌≡◌, ℕ, List, length}
use Rattle.ldm_model.specs.declared.event.Entry.{Entry}
use Rattle.ldm_recorder.specs.declared.line.Line.{Line}
use Rattle.ldm_recorder.specs.declared.line.TheConstants.{MOST_LINES}
use Rattle.ldm_recorder.specs.Lines.{IsLastOf}
use Rattle.ldm_recorder.specs.Numbers.{KnowsLasts}
use Rattle.ldm_recorder.proofs.Knowing.{LastsSome}
use Rattle.ldm_recorder.proofs.recorder.Recorder.lasts_below.Given as goal

abbrev pub invariant-loop-i : goal.invariant-loop-i
invariant-loop-i l = record {
  many : length l.lasts ≡ MOST_LINES;
  known : (seen : List Entry) → KnowsLasts seen l.self → LastsSome (λ (line : Line) (last : ℕ). IsLastOf l.self.base l.at seen line last) l.self.lines.items l.i l.lasts;
}
