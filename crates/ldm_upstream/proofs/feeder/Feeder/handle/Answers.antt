use Rattle.std.proofs.lemmas.Result.{err_from_is_err_and}
use Rattle.ldm_upstream.specs.Feeder.{asked_by}
use Rattle.ldm_upstream.proofs.Releasing.{ended_before, let_it_go, worn_before}
use Rattle.ldm_upstream.proofs.feeder.Feeder.handle.Goals as goal

pub returns-in_err-offer_if_due-clause-handles : goal.returns-in_err-offer_if_due-clause-handles
returns-in_err-offer_if_due-clause-handles g c =
    let why = err_from_is_err_and c.from_residual.result c.from_residual.ensures.1 in
    rw (why.1, why.2) λ body holds.
    ended_before _ (asked_by c.args.self.now) _ _ _ _ _ _ (c.in_err-offer_if_due.ensures.offers body holds)

pub release-requires-clause-holds : goal.release-requires-clause-holds
release-requires-clause-holds g c =
    (c.in_ok-offer_if_due.ensures.offers c.requires.holds.0 c.requires.holds.1).holds.cursor

pub returns-in-Done-clause-handles : goal.returns-in-Done-clause-handles
returns-in-Done-clause-handles g c = λ body holds.
    let offered = c.in_ok-offer_if_due.ensures in
    let released = c.in-Done.ensures in
    let_it_go (asked_by c.args.self.now) _ _ _ _ _ _ _ _ _ _ _ _ offered.still_open (offered.offers body holds)
    released.done.makes
    released.cursor

pub returns-in-Worn-clause-handles : goal.returns-in-Worn-clause-handles
returns-in-Worn-clause-handles g c = λ body holds.
    let offered = c.in_ok-offer_if_due.ensures in
    worn_before (asked_by c.args.self.now) _ _ _ _ _ _ _ _ _ _ _ _ _ offered.still_open (offered.offers body holds)
    c.in-Worn.ensures.worn
