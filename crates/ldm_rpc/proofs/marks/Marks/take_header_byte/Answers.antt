use Rattle.std.proofs.Common.{arith}
use Rattle.ldm_rpc.proofs.Steps.{four_digits}
use Rattle.ldm_rpc.proofs.marks.Marks.take_header_byte.Goals as goal

pub overflow_mul-number : goal.overflow_mul-number
overflow_mul-number c = omega (arith, four_digits c.args.came c.args.number c.args.byte c.requires.small.0 c.requires.small.1 c.ranges.byte.fits)

pub overflow_add-number : goal.overflow_add-number
overflow_add-number c = omega (arith, four_digits c.args.came c.args.number c.args.byte c.requires.small.0 c.requires.small.1 c.ranges.byte.fits)
