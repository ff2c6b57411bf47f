use Rattle.std.proofs.Common.{◌≡◌, ◌+◌, ◌*◌, ◌≤◌, length, take, All}
use Rattle.std.specs.List.{flat_map}
use Rattle.ldm_relay.specs.Fits.{SpecFits}
use Rattle.ldm_relay.specs.Spelling.{spec_bytes}
use Rattle.ldm_relay.proofs.length.class_len.Given as goal

abbrev pub invariant-loop-spec : goal.invariant-loop-spec
invariant-loop-spec l = record {
  value : l.len ≡ 20 + length (flat_map spec_bytes (take l.spec-index l.spec-items));
  bound : l.len ≤ 20 + 264 * l.spec-index;
  each : All SpecFits (take l.spec-index l.spec-items);
}
