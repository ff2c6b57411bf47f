use Rattle.std.proofs.Common.{◌∙◌, arith}
use Rattle.ldm_script.proofs.Bodies.{hex_size}
use Rattle.ldm_script.proofs.body.body_into.Goals as goal

pub digits_into-requires-clause-room : goal.digits_into-requires-clause-room
digits_into-requires-clause-room c = let size = hex_size c.args.body.now c.in-Hex.digits c.in-Hex.is c.requires.read in omega arith

pub returns-in-Hex-clause-len : goal.returns-in-Hex-clause-len
returns-in-Hex-clause-len c = c.digits_into.ensures.len ∙ hex_size c.args.body.now c.in-Hex.digits c.in-Hex.is c.requires.read
