use Rattle.ldm_recorder.proofs.Noting.{note_tells}
use Rattle.ldm_recorder.proofs.laws.a_note_tells_of_each_line.Goals as goal

pub returns : goal.returns
returns c = note_tells
