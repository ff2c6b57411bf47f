use Rattle.std.proofs.Common.{◌-◌, length, take, arith}
use Rattle.std.proofs.lemmas.List.{length-take-le}
use Rattle.ldm_xdr.specs.Spelling.{number, unsigned}
use Rattle.ldm_xdr.proofs.Written.{unwritten, put_more, put_at-from_written}
use Rattle.ldm_xdr.proofs.writing.put_unsigned.Goals as goal

pub returns-clause-written : goal.returns-clause-written
unfolding number
returns-clause-written c =
    let old = c.args.into.now in
    let at = c.args.at in
    let room = c.requires in
    let field = unsigned c.args.n in
    put_at-from_written old field _ at (omega arith) (put_more old (take at old) old field c.write_u32.new.buf at (length old - at)
    (unwritten old at (omega arith)) (length-take-le at old (omega arith)) (omega arith) room c.write_u32.ensures)
