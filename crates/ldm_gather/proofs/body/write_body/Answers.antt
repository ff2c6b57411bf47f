use Rattle.std.proofs.Common.{arith, length-take}
use Rattle.std.proofs.lemmas.Result.{err_from_is_err_and}
use Rattle.ldm_gather.specs.Writing.{sight_of}
use Rattle.ldm_gather.proofs.Reading.{body_begins, body_breaks, body_goes_on, body_whole}
use Rattle.ldm_gather.proofs.body.write_body.Goals as goal

pub loop-offset-init : goal.loop-offset-init
loop-offset-init g c = body_begins c.args.reader.now.k c.args.held.now (sight_of c.args.pass.now (g.K.Sink.tells c.args.sink.now))

pub write_piece-requires-clause-holds : goal.write_piece-requires-clause-holds
write_piece-requires-clause-holds g c =
    let one = c.loop-offset.invariant.reads c.requires.holds.0 c.requires.holds.1 in (c.requires.holds.0, one.1)

pub returns-in_err-write_piece-clause-reads : goal.returns-in_err-write_piece-clause-reads
returns-in_err-write_piece-clause-reads g c =
    let why = err_from_is_err_and c.from_residual.result c.from_residual.ensures.1 in
    rw (why.1, why.2)
    (body_breaks _ c.args.reader.now.k c.args.held.now c.loop-offset.offset _ (sight_of c.args.pass.now (g.K.Sink.tells c.args.sink.now))
    (sight_of c.loop-offset.pass (g.K.Sink.tells c.loop-offset.sink)) (sight_of c.write_piece.new.pass (g.K.Sink.tells c.write_piece.new.sink)) c.loop-offset.invariant
    c.in_err-write_piece.ensures.reads)

pub loop-offset-preserved : goal.loop-offset-preserved
loop-offset-preserved g c =
    body_goes_on c.args.reader.now.k c.args.held.now c.loop-offset.offset _ c.min-len.result (sight_of c.args.pass.now (g.K.Sink.tells c.args.sink.now))
    (sight_of c.loop-offset.pass (g.K.Sink.tells c.loop-offset.sink)) (sight_of c.write_piece.new.pass (g.K.Sink.tells c.write_piece.new.sink)) c.loop-offset.invariant
    c.in_ok-write_piece.ensures.kept
    (omega (arith, length-take c.min-len.result c.loop-offset.buffer, c.min-len.ensures))
    (omega (arith, c.min-len.ensures, c.size-size.ensures, c.loop-offset-test.true)) c.in_ok-write_piece.ensures.reads

pub returns-clause-reads : goal.returns-clause-reads
returns-clause-reads g c =
    body_whole c.args.reader.now.k c.args.held.now c.loop-offset.offset (sight_of c.args.pass.now (g.K.Sink.tells c.args.sink.now))
    (sight_of c.loop-offset.pass (g.K.Sink.tells c.loop-offset.sink)) c.loop-offset.invariant
    (omega (arith, c.size-size.ensures, c.loop-offset-test.false))
