use Rattle.ldm_model.specs.State.{empty}
use Rattle.ldm_model.proofs.Appended.{after_entries-append, IsLegalFrom-append}
use Rattle.ldm_model.proofs.laws.histories_append.Goals as goal

pub returns-clause-legal : goal.returns-clause-legal
returns-clause-legal c = λ arena slots front behind. IsLegalFrom-append front behind (empty arena slots)

pub returns-clause-state : goal.returns-clause-state
returns-clause-state c = λ arena slots front behind. after_entries-append front behind (empty arena slots)
