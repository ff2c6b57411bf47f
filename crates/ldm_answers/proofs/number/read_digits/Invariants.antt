use Rattle.std.proofs.Common.{◌≡◌, drop}
use Rattle.ldm_answers.specs.Number.{digits_from}
use Rattle.ldm_answers.proofs.number.read_digits.Given as goal

abbrev pub invariant-loop-byte : goal.invariant-loop-byte
invariant-loop-byte l = digits_from l.number (drop l.byte-index l.text) ≡ digits_from 0 l.text
