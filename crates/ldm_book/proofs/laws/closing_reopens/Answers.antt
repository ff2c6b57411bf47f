use Rattle.std.proofs.Common.{◌≡◌, ◌∙◌, ℕ, ◌+◌, ◌++◌, None, length, replicate, refl, sym, ap, subst, append_assoc, arith}
use Rattle.ldm_model.specs.State.{State}
use Rattle.ldm_model.specs.History.{after, after_entries, IsLegal, IsLegalFrom}
use Rattle.ldm_book.specs.Reopening.{closes, discards, reopened}
use Rattle.ldm_book.proofs.ClosingLemmas.{AreOwned, Leads, closes_all, discards_all, owned_after}
use Rattle.ldm_book.proofs.laws.closing_reopens.Goals as goal

-- the cursors are closed, and the reservations stay
abbrev closed : State → State
closed s = record s { cursors = replicate 64 None }

closing : (s : State) → AreOwned s → Leads s (closed s) (closes 0 s.cursors)
closing s own =
    let n : 0 + length s.cursors ≡ 64 = omega (arith, own.many) in
    subst (λ (m : ℕ). Leads s (record s { cursors = replicate m None }) (closes 0 s.cursors)) n (closes_all s.cursors 0 s refl own.cursors (omega arith))

giving_up : (s : State) → AreOwned s → Leads (closed s) (reopened s) (discards 0 s.reservations)
giving_up s own =
    let n : 0 + length s.reservations ≡ 64 = omega (arith, own.places) in
    subst (λ (m : ℕ). Leads (closed s) (record (closed s) { reservations = replicate m None }) (discards 0 s.reservations)) n
    (discards_all s.reservations 0 (closed s) refl own.reservations (omega arith))

pub returns-clause-legal : goal.returns-clause-legal
returns-clause-legal c = λ arena slots history legal.
    let s = after arena slots history in
    let own = owned_after arena slots history legal in
    let first = closing s own in
    let then_ones = giving_up s own in
    let front = closes 0 s.cursors in
    let behind = discards 0 s.reservations in
    let middle = (c.histories_append.ensures.legal arena slots history front).1 (legal, first.legal) in
    let is = c.histories_append.ensures.state arena slots history front ∙ first.state in
    subst (IsLegal arena slots) (append_assoc history front behind)
    ((c.histories_append.ensures.legal arena slots (history ++ front) behind).1 (middle, subst (λ (m : State). IsLegalFrom m behind) (sym is) then_ones.legal))

pub returns-clause-state : goal.returns-clause-state
returns-clause-state c = λ arena slots history legal.
    let s = after arena slots history in
    let own = owned_after arena slots history legal in
    let first = closing s own in
    let then_ones = giving_up s own in
    let front = closes 0 s.cursors in
    let behind = discards 0 s.reservations in
    let is = c.histories_append.ensures.state arena slots history front ∙ first.state in
    sym (ap (after arena slots) (append_assoc history front behind))
    ∙ c.histories_append.ensures.state arena slots (history ++ front) behind ∙ ap (λ (m : State). after_entries m behind) is ∙ then_ones.state
