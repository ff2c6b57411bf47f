use Rattle.ldm_journal.proofs.RunLemmas.{leaves_a_note, leaves_a_part}
use Rattle.ldm_journal.proofs.laws.a_crash_leaves_a_part.Goals as goal

pub returns-clause-part : goal.returns-clause-part
returns-clause-part c = leaves_a_part

pub returns-clause-noted : goal.returns-clause-noted
returns-clause-noted c = leaves_a_note
