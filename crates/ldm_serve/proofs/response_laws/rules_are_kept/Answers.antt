use Rattle.ldm_serve.proofs.KeepingRules.{inserts, asks_figures, figures_told}
use Rattle.ldm_serve.proofs.response_laws.rules_are_kept.Goals as goal

pub returns-clause-inserts : goal.returns-clause-inserts
returns-clause-inserts c = inserts

pub returns-clause-asks_figures : goal.returns-clause-asks_figures
returns-clause-asks_figures c = asks_figures

pub returns-clause-tells_figures : goal.returns-clause-tells_figures
returns-clause-tells_figures c = figures_told
