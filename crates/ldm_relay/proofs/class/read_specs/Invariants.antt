use Rattle.std.proofs.Common.{◌≡◌, ◌≤◌, ◌-◌, length, All}
use Rattle.ldm_relay.specs.Classes.{specs_in}
use Rattle.ldm_relay.specs.Fits.{SpecFits}
use Rattle.ldm_relay.proofs.Specs.{with_front}
use Rattle.ldm_relay.proofs.class.read_specs.Given as goal

abbrev pub invariant-loop : goal.invariant-loop
invariant-loop l = record {
  read : with_front l.specs.items (specs_in (l.count - l.counter) l.fields) ≡ specs_in l.count l.fn.fields;
  len : length l.specs.items ≤ l.counter;
  each : All SpecFits l.specs.items;
}
