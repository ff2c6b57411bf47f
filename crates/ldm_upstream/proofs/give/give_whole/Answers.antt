use Rattle.std.proofs.Common.{ℕ, ap}
use Rattle.std.proofs.lemmas.Result.{err_from_is_err_and}
use Rattle.ldm_upstream.specs.Giving.{given_of}
use Rattle.ldm_upstream.proofs.Carrying.{all_of_it, no_head, no_zeros, not_sent, part_of_body, whole_stands}
use Rattle.ldm_upstream.proofs.give.give_whole.Goals as goal

pub returns-in_err-padding-clause-gives : goal.returns-in_err-padding-clause-gives
returns-in_err-padding-clause-gives g c =
    let why = err_from_is_err_and c.from_residual.result c.from_residual.ensures.1 in
    rw (why.1, why.2) λ body h. no_head _ _ _ _ _ (given_of c.args.lent.now.held.now body) c.requires.not_closed _ _ h

pub returns-in_err-append_body-clause-gives : goal.returns-in_err-append_body-clause-gives
returns-in_err-append_body-clause-gives g c =
    let residual = c.from_residual-in_err-append_body in
    let why = err_from_is_err_and residual.result residual.ensures.1 in
    rw (why.1, why.2) λ body h.
    part_of_body _ _ _ _ _ (given_of c.args.lent.now.held.now body) c.requires.not_closed _ body _ _ _
    (whole_stands _ _ body _ _ (c.in_ok-padding.ensures.ok body h.whole)) _ _ _
    (c.in_err-append_body.ensures.read body (g.C.Clock.tells c.args.clock.now) h)

pub returns-in_err-append_zeros-clause-gives : goal.returns-in_err-append_zeros-clause-gives
returns-in_err-append_zeros-clause-gives g c =
    let residual = c.from_residual-in_err-append_zeros in
    let why = err_from_is_err_and residual.result residual.ensures.1 in
    rw (why.1, why.2) λ body h.
    let reads_on = c.in_ok-append_body.ensures.read body (g.C.Clock.tells c.args.clock.now) h in
    no_zeros _ _ _ _ _ (given_of c.args.lent.now.held.now body) c.requires.not_closed _ body _ _ _
    (whole_stands _ _ body _ _ (c.in_ok-padding.ensures.ok body h.whole)) _ _ _ c.in_ok-append_body.ensures.still_open reads_on.does reads_on.holds _ _

pub returns-in_err-send_where_full-clause-gives : goal.returns-in_err-send_where_full-clause-gives
returns-in_err-send_where_full-clause-gives g c =
    let residual = c.from_residual-in_err-send_where_full in
    let why = err_from_is_err_and residual.result residual.ensures.1 in
    rw (why.1, why.2) λ body h.
    let reads_on = c.in_ok-append_body.ensures.read body (g.C.Clock.tells c.args.clock.now) h in
    not_sent _ _ _ _ _ (given_of c.args.lent.now.held.now body) c.requires.not_closed _ body _ _ _
    (whole_stands _ _ body _ _ (c.in_ok-padding.ensures.ok body h.whole)) _ _ _ c.in_ok-append_body.ensures.still_open reads_on.does reads_on.holds _ _ _
    c.in_ok-append_zeros.ensures c.count_call.ensures.answered _ _ c.in_err-send_where_full.ensures.faults_kept
    c.in_err-send_where_full.ensures.sent

pub returns-clause-gives : goal.returns-clause-gives
returns-clause-gives g c = λ body h.
    let reads_on = c.in_ok-append_body.ensures.read body (g.C.Clock.tells c.args.clock.now) h in (
      all_of_it _ _ _ _ _ (given_of c.args.lent.now.held.now body) c.requires.not_closed _ body _ _ _
          (whole_stands _ _ body _ _ (c.in_ok-padding.ensures.ok body h.whole)) _ _ _ c.in_ok-append_body.ensures.still_open reads_on.does reads_on.holds
          _ _ _ c.in_ok-append_zeros.ensures c.count_call.ensures.answered _ _ c.in_ok-send_where_full.ensures.sent,
      ap (λ (next : ℕ). record c.count_call.new.standing { next = next }) c.count_call.ensures.next,
    )
