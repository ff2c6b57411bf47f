use Rattle.std.proofs.Common.{take}
use Rattle.std.specs.List.{flat_map}
use Rattle.ldm_relay.specs.Appends.{Appends}
use Rattle.ldm_relay.specs.Spelling.{spec_bytes}
use Rattle.ldm_relay.proofs.write.put_specs.Given as goal

abbrev pub invariant-loop-spec : goal.invariant-loop-spec
invariant-loop-spec l = Appends l.initial.out l.out (flat_map spec_bytes (take l.spec-index l.specs))
