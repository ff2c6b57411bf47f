use Rattle.std.proofs.Common.{◌∷◌, ◌++◌, take}
use Rattle.std.specs.Int.{w16, to_be_bytes}
use Rattle.std.specs.List.{flat_map}
use Rattle.md5.specs.Md5.{Holds}
use Rattle.ldm_node_command.specs.Lines.{spec_bytes}
use Rattle.ldm_node_command.proofs.lines.key_of.Given as goal

-- the hasher holds the host, the port and the specifications so far
abbrev pub invariant-loop-spec : goal.invariant-loop-spec
invariant-loop-spec l = Holds l.hasher (l.request.host.items ++ 0 ∷ to_be_bytes w16 l.request.port ++ flat_map spec_bytes (take l.spec-index l.specs))
