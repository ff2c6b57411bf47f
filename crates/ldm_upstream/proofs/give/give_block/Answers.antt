use Rattle.std.proofs.Common.{ℕ, arith, replicate}
use Rattle.std.proofs.lemmas.Result.{err_from_is_err_and}
use Rattle.ldm_upstream.specs.Giving.{given_of}
use Rattle.ldm_upstream.specs.ProductDeeds.{part_of}
use Rattle.ldm_upstream.proofs.Carrying.{all_of_it, block_stands, no_body, no_head, no_zeros, not_sent}
use Rattle.ldm_upstream.proofs.Sending.{part_done}
use Rattle.ldm_upstream.proofs.give.give_block.Goals as goal

pub returns-in_err-padding-clause-gives : goal.returns-in_err-padding-clause-gives
returns-in_err-padding-clause-gives g c =
    let why = err_from_is_err_and c.from_residual.result c.from_residual.ensures.1 in
    rw (why.1, why.2) λ body h. no_head _ _ _ _ _ (given_of c.args.part.now.lent.held.now body) c.requires.not_closed _ _ h

pub returns-in_err-append_part-clause-gives : goal.returns-in_err-append_part-clause-gives
returns-in_err-append_part-clause-gives g c =
    let residual = c.from_residual-in_err-append_part in
    let why = err_from_is_err_and residual.result residual.ensures.1 in
    rw (why.1, why.2) λ body h.
    let part = part_of c.args.part.now.offset c.args.part.now.len body in
    let zeros = replicate {A = ℕ} c.in_ok-padding.padding 0 in
    no_body _ _ _ _ _ (given_of c.args.part.now.lent.held.now body) c.requires.not_closed _ part zeros _ c.write_head.new.out.items
    (block_stands _ _ body _ _ _ _ _ _ _ c.signature.ensures (omega (arith, h.whole, c.requires.within))
    c.in_ok-padding.ensures.ok) _ _ _ _ h (c.in_err-append_part.ensures.read body h)

pub returns-in_err-append_zeros-clause-gives : goal.returns-in_err-append_zeros-clause-gives
returns-in_err-append_zeros-clause-gives g c =
    let residual = c.from_residual-in_err-append_zeros in
    let why = err_from_is_err_and residual.result residual.ensures.1 in
    rw (why.1, why.2) λ body h.
    let appends = c.in_ok-append_part.ensures.read body h in
    no_zeros _ _ _ _ _ (given_of c.args.part.now.lent.held.now body) c.requires.not_closed _ _ _ _ _
    (block_stands _ _ body _ _ _ _ _ _ _ c.signature.ensures (omega (arith, h.whole, c.requires.within))
    c.in_ok-padding.ensures.ok) _ _ _ c.requires.not_closed (part_done _ _ _ _ _ _ _ _ _ _ c.requires.not_closed appends) appends.holds _ _

pub returns-in_err-send_where_full-clause-gives : goal.returns-in_err-send_where_full-clause-gives
returns-in_err-send_where_full-clause-gives g c =
    let residual = c.from_residual-in_err-send_where_full in
    let why = err_from_is_err_and residual.result residual.ensures.1 in
    rw (why.1, why.2) λ body h.
    let appends = c.in_ok-append_part.ensures.read body h in
    not_sent _ _ _ _ _ (given_of c.args.part.now.lent.held.now body) c.requires.not_closed _ _ _ _ _
    (block_stands _ _ body _ _ _ _ _ _ _ c.signature.ensures (omega (arith, h.whole, c.requires.within))
    c.in_ok-padding.ensures.ok) _ _ _ c.requires.not_closed (part_done _ _ _ _ _ _ _ _ _ _ c.requires.not_closed appends) appends.holds _ _ _
    c.in_ok-append_zeros.ensures c.count_call.ensures.answered _ _ c.in_err-send_where_full.ensures.faults_kept
    c.in_err-send_where_full.ensures.sent

pub returns-clause-gives : goal.returns-clause-gives
returns-clause-gives g c = λ body h.
    let appends = c.in_ok-append_part.ensures.read body h in (
      all_of_it _ _ _ _ _ (given_of c.args.part.now.lent.held.now body) c.requires.not_closed _ _ _ _ _
          (block_stands _ _ body _ _ _ _ _ _ _ c.signature.ensures (omega (arith, h.whole, c.requires.within))
          c.in_ok-padding.ensures.ok) _ _ _ c.requires.not_closed (part_done _ _ _ _ _ _ _ _ _ _ c.requires.not_closed appends) appends.holds
          _ _ _ c.in_ok-append_zeros.ensures c.count_call.ensures.answered _ _ c.in_ok-send_where_full.ensures.sent,
      c.count_call.ensures.next,
    )
