use Rattle.std.proofs.Common.{sym, subst}
use Rattle.ldm_model.specs.History.{IsLegal}
use Rattle.ldm_shared.proofs.Made.{makes_none, makes_trans, makes_end, calls_none, calls_some, calls_trans, has_seen_new, has_seen_front}
use Rattle.ldm_shared.proofs.laws.calls_made.Goals as goal

pub returns-clause-none : goal.returns-clause-none
returns-clause-none c = makes_none

pub returns-clause-one : goal.returns-clause-one
returns-clause-one c = λ old new event reply grows. grows.makes

pub returns-clause-worn : goal.returns-clause-worn
returns-clause-worn c = λ old new turns worn. worn.makes

pub returns-clause-met : goal.returns-clause-met
returns-clause-met c = λ old other new met. met.makes

pub returns-clause-in_a_row : goal.returns-clause-in_a_row
returns-clause-in_a_row c = makes_trans

pub returns-clause-end : goal.returns-clause-end
returns-clause-end c = makes_end

pub returns-clause-nothing : goal.returns-clause-nothing
returns-clause-nothing c = calls_none

pub returns-clause-some : goal.returns-clause-some
returns-clause-some c = calls_some

pub returns-clause-more : goal.returns-clause-more
returns-clause-more c = calls_trans

pub returns-clause-new : goal.returns-clause-new
returns-clause-new c = has_seen_new

pub returns-clause-front : goal.returns-clause-front
returns-clause-front c = λ pass seen has front.
    has_seen_front pass seen front has
    ((c.histories_append.ensures.legal pass.arena pass.slots seen front.0).0 (subst (IsLegal pass.arena pass.slots) (sym front.1) has.legal)).0
