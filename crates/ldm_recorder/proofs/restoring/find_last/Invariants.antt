use Rattle.ldm_recorder.proofs.Finding.{FindsOn}
use Rattle.ldm_recorder.proofs.restoring.find_last.Given as goal

abbrev pub invariant-loop-i : goal.invariant-loop-i
invariant-loop-i l = FindsOn l.lines l.fn.lasts l.number l.signature.0 l.i l.lasts
