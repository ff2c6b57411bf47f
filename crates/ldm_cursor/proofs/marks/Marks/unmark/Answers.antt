use Rattle.std.proofs.Common.{ap, ◌∙◌, ◌*◌, ◌%◌, ◌^◌, w64}
use Rattle.std.specs.Int.{bit_at, bit_not}
use Rattle.std.specs.Prelude.{bit_and}
use Rattle.std.proofs.lemmas.Nat.Bits.{bit_at_clear_same, bit_at_clear_other}
use Rattle.ldm_cursor.proofs.marks.Marks.unmark.Goals as goal

pub returns-clause-unmarked : goal.returns-clause-unmarked
returns-clause-unmarked c =
    let bits = c.args.self.now.bits in
    record {
      unmarked = ap (λ j. bit_at (bit_and bits (bit_not w64 (1 * 2 ^ j % 2 ^ 64))) c.args.k) c.get.ensures.value ∙ bit_at_clear_same w64 bits c.args.k c.get.ensures.bound;
      others = λ i bound other. ap (λ j. bit_at (bit_and bits (bit_not w64 (1 * 2 ^ j % 2 ^ 64))) i) c.get.ensures.value ∙ bit_at_clear_other w64 bits c.args.k c.get.ensures.bound i bound other;
    }
