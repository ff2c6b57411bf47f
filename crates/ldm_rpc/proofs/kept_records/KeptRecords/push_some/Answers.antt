use Rattle.std.proofs.Common.{◌<◌, ◌∙◌, ap, sym, subst, length-take-le}
use Rattle.std.proofs.lemmas.Result.{err_from_is_err_and}
use Rattle.ldm_rpc.specs.Reading.{is_whole}
use Rattle.ldm_rpc.proofs.Pushing.{fault_of_front, not_whole_by, pushed_some}
use Rattle.ldm_rpc.proofs.kept_records.KeptRecords.push_some.Goals as goal

pub returns-in_err-taken-clause-fault : goal.returns-in_err-taken-clause-fault
returns-in_err-taken-clause-fault g c =
    let p = err_from_is_err_and c.from_residual.result c.from_residual.ensures.1 in
    rw (p.1, p.2)
    (fault_of_front c.args.self.now c.push.new.self c.args.piece.now c.taken_at_once-count.result c.in_err-taken.field-0.0
    (rw (← c.self.view_is) c.in_err-taken.ensures.fault))

pub returns-in_err-taken-clause-still : goal.returns-in_err-taken-clause-still
returns-in_err-taken-clause-still g c =
    let p = err_from_is_err_and c.from_residual.result c.from_residual.ensures.1 in
    rw p.1 (not_whole_by _ _ _ c.in_err-taken.field-0.0 c.in_err-taken.ensures.fault)

pub returns-clause-taken : goal.returns-clause-taken
returns-clause-taken g c =
    let new = c.settle.new.self in
    let piece = c.args.piece.now in
    let pushed = c.in_ok-taken.ensures in
    let count = c.taken_at_once-count.result in
    let most = c.taken_at_once-count.ensures.most in
    rw (← c.self.view_is)
    (pushed_some c.self.inside.records new piece count c.in_ok-taken.taken most
    (c.settle.ensures.stays ∙ pushed.after.0) pushed.taken.0 pushed.taken.1
    (pushed.moves (subst (λ n. 0 < n) (sym (length-take-le count piece most)) (c.taken_at_once-count.ensures.some c.requires.some)))
    (λ less. ap is_whole c.settle.ensures.stays ∙ pushed.ends less))
