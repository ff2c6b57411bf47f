use Rattle.std.proofs.Common.{◌≡◌, ◌∙◌, true, eqb, List, ℕ, [], ◌∷◌, length, refl, sym, arith}
use Rattle.std.proofs.lemmas.Bool.{both_ways, ne_eqb}
use Rattle.ldm_outside.specs.Session.{ungated_tells}
use Rattle.ldm_intake.specs.Opening.{accepting}
use Rattle.ldm_downstream.specs.Sessions.{settled}
use Rattle.ldm_downstream.proofs.AllReceived.{fresh-runs, none-received, pushed-received}
use Rattle.ldm_downstream.proofs.Complete.{completes}
use Rattle.ldm_downstream.proofs.SessionTurns.{kept-none}
use Rattle.ldm_downstream.proofs.session.receive_pushed.Goals as goal

is_empty : (bytes : List ℕ) → true ≡ eqb (length bytes) 0 → bytes ≡ []
is_empty [] e = refl
is_empty (byte ∷ bytes) e = absurd (both_ways (eqb (length (byte ∷ bytes)) 0) (ne_eqb (length (byte ∷ bytes)) 0 (omega arith)) (sym e))

pub returns-in-Ok-clause-receives : goal.returns-in-Ok-clause-receives
returns-in-Ok-clause-receives g c =
    let now = ungated_tells g.K.Link.tells g.E.Sink.tells g.C.Clock.tells c.args.link.now c.args.log.now c.args.clock.now in
    let first = c.in-Ok.session.taker.receiver in
    let class = c.args.class.now in
    let rules = c.args.policy.now in
    let host = c.args.host.now in
    let none = is_empty c.args.ahead.now (sym c.if-is_empty.true ∙ c.is_empty.ensures) in
    rw none
    (pushed-received _ _ first c.run-end.new.self.taker.receiver class rules host [] _ _ _ _ c.in-Ok.ensures.receiver c.last.ensures
    (c.run-end.ensures.runs_out [] first.hand (settled first.receiving c.args.pass.now) now (fresh-runs first class rules host c.args.pass.now now c.in-Ok.ensures.receiver)
    (kept-none now now refl refl refl)))

pub returns-in-Ok-clause-completes : goal.returns-in-Ok-clause-completes
returns-in-Ok-clause-completes g c = completes _ _ _ _ _ _ _ _ (returns-in-Ok-clause-receives g c)

pub returns-in-Err-clause-receives : goal.returns-in-Err-clause-receives
returns-in-Err-clause-receives g c =
    let now = ungated_tells g.K.Link.tells g.E.Sink.tells g.C.Clock.tells c.args.link.now c.args.log.now c.args.clock.now in
    let none = is_empty c.args.ahead.now (sym c.if-is_empty.true ∙ c.is_empty.ensures) in
    rw none (none-received (accepting c.args.class.now c.args.policy.now c.args.host.now) c.args.pass.now now refl)

pub returns-else-is_empty-clause-completes : goal.returns-else-is_empty-clause-completes
returns-else-is_empty-clause-completes g c = completes _ _ _ _ _ _ _ _ c.receive_behind.ensures.receives
