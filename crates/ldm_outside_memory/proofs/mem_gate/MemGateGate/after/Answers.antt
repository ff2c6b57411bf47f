use Rattle.std.proofs.Common.{◌∙◌, ap}
use Rattle.ldm_outside_memory.specs.MemGate.{GateState}
use Rattle.ldm_outside_memory.proofs.mem_gate.MemGateGate.after.Goals as goal

pub push_reserved-requires : goal.push_reserved-requires
push_reserved-requires c = c.self.invariant (c.requires.0, c.args.actor, c.args.i, ap (λ (s : GateState). s.told) c.self.view_is ∙ c.requires.1)
