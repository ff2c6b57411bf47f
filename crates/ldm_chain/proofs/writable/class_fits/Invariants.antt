use Rattle.std.proofs.Common.{take, All}
use Rattle.ldm_relay.specs.Fits.{SpecFits}
use Rattle.ldm_chain.proofs.writable.class_fits.Given as goal

abbrev pub invariant-loop-spec : goal.invariant-loop-spec
invariant-loop-spec l = All SpecFits (take l.spec-index l.spec-items)
