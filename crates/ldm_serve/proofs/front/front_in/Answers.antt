use Rattle.std.proofs.Common.{sym, arith, length-take-le, take_all}
use Rattle.ldm_relay.specs.declared.front.TheConstants.{LONGEST_CALL}
use Rattle.ldm_serve.proofs.front.front_in.Goals as goal

pub returns-then-bytes : goal.returns-then-bytes
returns-then-bytes c = sym (take_all LONGEST_CALL c.args.bytes.now (omega (arith, c.if-bytes.true)))

pub slice_bounds-result-end : goal.slice_bounds-result-end
slice_bounds-result-end c = sym (length-take-le LONGEST_CALL c.args.bytes.now (omega (arith, c.if-bytes.false)))
