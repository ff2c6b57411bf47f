use Rattle.std.proofs.lemmas.Result.{err_from_is_err_and}
use Rattle.ldm_pqact.proofs.Handled.{handled_broken, handled_gone, handled_unnoted, handled_worn}
use Rattle.ldm_pqact.proofs.carrier.Carrier.handle.Goals as goal

pub returns-in_err-chosen-clause-handles : goal.returns-in_err-chosen-clause-handles
returns-in_err-chosen-clause-handles g c body holds =
    let why = err_from_is_err_and c.from_residual.result c.from_residual.ensures.1 in
    rw (why.1, why.2) (handled_unnoted _ c.args.self.now.entries c.args.holding body _ _ _ holds c.in_err-chosen.ensures.in_part)

pub returns-in_err-carry_all-clause-handles : goal.returns-in_err-carry_all-clause-handles
returns-in_err-carry_all-clause-handles g c body holds =
    let why = err_from_is_err_and c.from_residual-in_err-carry_all.result c.from_residual-in_err-carry_all.ensures.1 in
    rw (why.1, why.2)
    (handled_broken c.args.self.now.entries c.args.holding body _ _ _ c.in_ok-chosen.ensures.notes _ _ _ (c.in_err-carry_all.ensures.does body holds))

pub returns-in-Done-clause-handles : goal.returns-in-Done-clause-handles
returns-in-Done-clause-handles g c body holds =
    handled_gone c.args.self.now.entries c.args.holding body _ _ _ c.in_ok-chosen.ensures.notes _ _ _ (c.in_ok-carry_all.ensures.does body holds) c.in-Done.ensures.done
    c.in-Done.ensures.cursor

pub returns-in-Worn-clause-handles : goal.returns-in-Worn-clause-handles
returns-in-Worn-clause-handles g c body holds =
    handled_worn c.args.self.now.entries c.args.holding body _ _ _ c.in_ok-chosen.ensures.notes _ _ _ _ (c.in_ok-carry_all.ensures.does body holds) c.in-Worn.ensures.worn
