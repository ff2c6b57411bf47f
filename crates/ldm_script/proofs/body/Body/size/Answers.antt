use Rattle.ldm_script.proofs.Bodies.{hex_size}
use Rattle.ldm_script.proofs.body.Body.size.Goals as goal

pub returns-in-Hex-clause-value : goal.returns-in-Hex-clause-value
returns-in-Hex-clause-value c = hex_size c.args.self.now c.in-Hex.digits c.in-Hex.is c.requires
