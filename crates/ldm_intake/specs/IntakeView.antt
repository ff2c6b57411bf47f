-- What contracts see of an `Intake`.
use Rattle.std.specs.Option.{option_map}
use Rattle.ldm_intake.specs.Receiving.{Receiving}
use Rattle.ldm_intake.specs.declared.intake.Intake.TheInside.{Inside}

abbrev pub receiving_of : Inside → Receiving
receiving_of intake = record {
  wanting = intake.wanted;
  max_hereis = intake.max_hereis;
  phase = intake.phase;
  pending = intake.pending;
  last = option_map (λ signature. signature.0) intake.last;
}
