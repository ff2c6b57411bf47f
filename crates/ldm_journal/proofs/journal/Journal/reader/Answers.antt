use Rattle.std.proofs.Common.{refl}
use Rattle.ldm_journal.proofs.EventLemmas.{first_product}
use Rattle.ldm_journal.proofs.journal.Journal.reader.Goals as goal

pub returns-clause-first : goal.returns-clause-first
returns-clause-first c = first_product _ _ refl refl refl
