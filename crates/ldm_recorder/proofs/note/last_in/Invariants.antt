use Rattle.ldm_recorder.proofs.Noting.{NoneYet}
use Rattle.ldm_recorder.proofs.note.last_in.Given as goal

abbrev pub invariant-loop-i : goal.invariant-loop-i
invariant-loop-i l = NoneYet l.key l.note l.i
