use Rattle.std.proofs.Common.{◌≡◌, ◌+◌, ◌*◌, ◌^◌, ◌≤◌, drop}
use Rattle.ldm_wmo.specs.Lines.{number_from, number_of}
use Rattle.ldm_wmo.proofs.lines.number_of.Given as goal

abbrev pub invariant-loop-digit : goal.invariant-loop-digit
invariant-loop-digit l = (number_from l.value (drop l.digit-index l.digits) ≡ number_of l.digits) × (l.value + 23 ≤ 23 * 10 ^ l.digit-index)
