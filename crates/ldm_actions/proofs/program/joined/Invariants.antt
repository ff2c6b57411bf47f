use Rattle.std.proofs.Common.{◌≡◌, string_bytes, take}
use Rattle.ldm_outside.specs.Launcher.{spelled}
use Rattle.ldm_actions.specs.World.{command_of}
use Rattle.ldm_actions.proofs.program.joined.Given as goal

abbrev pub invariant-loop-i : goal.invariant-loop-i
invariant-loop-i l = string_bytes l.joined ≡ command_of (spelled (take l.i l.words))
