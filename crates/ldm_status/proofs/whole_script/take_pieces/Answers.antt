use Rattle.std.proofs.Common.{◌++◌, take, arith, length-append, length-take}
use Rattle.std.proofs.lemmas.Result.{err_from_is_err_and}
use Rattle.ldm_outside.proofs.CallerLemmas.{Gives-then}
use Rattle.ldm_status.proofs.whole_script.take_pieces.Goals as goal

pub returns-in_err-extend_from_slice-in-Bytes-clause-part : goal.returns-in_err-extend_from_slice-in-Bytes-clause-part
returns-in_err-extend_from_slice-in-Bytes-clause-part g c =
    let p = err_from_is_err_and c.from_residual.result c.from_residual.ensures.1 in
    let so_far = c.loop-text.text.items in
    let piece = take c.in-Bytes.n c.read.new.into in
    let given = c.in-Bytes.ensures.given in
    rw (p.1, p.2)
    (record {
      text = so_far ++ piece;
      taken = Gives-then (g.S.Source.tells c.args.source.now) (g.S.Source.tells c.loop-text.source) (g.S.Source.tells c.read.new.self) so_far piece c.loop-text.invariant.taken given.2;
      limit = omega (arith, length-append so_far piece, length-take c.in-Bytes.n c.read.new.into, given.1, c.read.auto.into, length-take c.min-room.result c.loop-text.piece, c.min-room.ensures, c.loop-text-test.true, c.len.ensures, c.len-in-loop-text.ensures, c.loop-text.text.ok.0);
      stops = tt;
    })
