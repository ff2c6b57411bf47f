use Rattle.ldm_pqact_match.proofs.DaysAsked.{refused}
use Rattle.ldm_pqact_match.proofs.law.no_date_is_no_day.Goals as goal

pub returns : goal.returns
returns c info time entry = refused info time entry
