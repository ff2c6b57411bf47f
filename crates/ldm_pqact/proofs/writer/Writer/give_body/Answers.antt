use Rattle.std.proofs.Common.{arith}
use Rattle.std.proofs.lemmas.Result.{err_from_is_err_and}
use Rattle.ldm_pqact.proofs.Reading.{body_begins, body_breaks, body_goes_on, body_whole}
use Rattle.ldm_pqact.proofs.writer.Writer.give_body.Goals as goal

pub loop-offset-init : goal.loop-offset-init
loop-offset-init g c = (body_begins c.args.holding.now _ c.requires.keeps, c.requires.room)

pub give_piece-requires-clause-holds : goal.give_piece-requires-clause-holds
give_piece-requires-clause-holds g c =
    let one = c.loop-offset.invariant.0.reads c.requires.in_hand.0 c.requires.holds.0 c.requires.holds.1 c.requires.in_hand.1 in (c.requires.holds.0, one.holds)

pub give_piece-requires-clause-in_hand : goal.give_piece-requires-clause-in_hand
give_piece-requires-clause-in_hand g c =
    let one = c.loop-offset.invariant.0.reads c.requires.in_hand.0 c.requires.holds.0 c.requires.holds.1 c.requires.in_hand.1 in (c.requires.in_hand.0, one.gives.in_hand)

pub returns-in_err-len-clause-reads : goal.returns-in_err-len-clause-reads
returns-in_err-len-clause-reads g c =
    let why = err_from_is_err_and c.from_residual.result c.from_residual.ensures.1 in
    rw (why.1, why.2) (body_breaks _ c.args.holding.now c.loop-offset.offset _ _ _ c.loop-offset.invariant.0 c.in_err-len.ensures.reads)

pub loop-offset-preserved : goal.loop-offset-preserved
loop-offset-preserved g c = (
  body_goes_on c.args.holding.now c.loop-offset.offset c.in_ok-len.len _ _ _ c.loop-offset.invariant.0 c.in_ok-len.ensures.kept c.in_ok-len.ensures.keeps
      c.in_ok-len.ensures.within c.in_ok-len.ensures.reads,
  c.in_ok-len.ensures.room,
)

pub returns-clause-reads : goal.returns-clause-reads
returns-clause-reads g c =
    body_whole c.args.holding.now c.loop-offset.offset _ _ c.loop-offset.invariant.0 (omega (arith, c.size-size.ensures, c.loop-offset-test.false))
