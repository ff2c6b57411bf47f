use Rattle.ldm_recorder.proofs.Telling.{note_of_turns}
use Rattle.ldm_recorder.proofs.laws.the_note_is_of_the_last_commit.Goals as goal

pub returns : goal.returns
returns c = note_of_turns
