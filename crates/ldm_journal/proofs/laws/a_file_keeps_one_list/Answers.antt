use Rattle.ldm_journal.proofs.OneList.{one_kept}
use Rattle.ldm_journal.proofs.laws.a_file_keeps_one_list.Goals as goal

pub returns : goal.returns
returns c = one_kept
