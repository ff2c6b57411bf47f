use Rattle.std.proofs.Common.{◌≡◌}
use Rattle.ldm_recorder.specs.declared.line.Line.{Line}
use Rattle.ldm_recorder.specs.Lines.{with_note}
use Rattle.ldm_recorder.proofs.Finding.{blend}
use Rattle.ldm_recorder.proofs.note.take_note.Given as goal

abbrev pub invariant-loop-line : goal.invariant-loop-line
invariant-loop-line l = l.lines ≡ blend (λ (line : Line). line) (with_note l.note) l.line-index l.fn.lines
