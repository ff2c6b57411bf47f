use Rattle.std.proofs.Common.{◌≡◌, ◌+◌, ◌^◌, ◌<◌, drop}
use Rattle.ldm_feedtype.specs.Words.{numeral}
use Rattle.ldm_feedtype.proofs.words.numeral.Given as goal

abbrev pub invariant-loop-i : goal.invariant-loop-i
invariant-loop-i l = record {
  so_far : numeral l.radix l.at (l.place + l.i) l.value (drop l.i l.digits) ≡ numeral l.radix l.at l.place 0 l.digits;
  small : l.value < 2 ^ 32;
}
