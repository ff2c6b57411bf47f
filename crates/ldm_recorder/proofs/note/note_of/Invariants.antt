use Rattle.ldm_recorder.proofs.Noting.{NotesSome}
use Rattle.ldm_recorder.proofs.note.note_of.Given as goal

abbrev pub invariant-loop-i : goal.invariant-loop-i
invariant-loop-i l = NotesSome l.lines l.lasts l.i l.note
