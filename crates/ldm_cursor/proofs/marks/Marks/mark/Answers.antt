use Rattle.std.proofs.Common.{ap, ◌∙◌, ◌*◌, ◌%◌, ◌^◌, w64}
use Rattle.std.specs.Int.{bit_at}
use Rattle.std.specs.Prelude.{bit_or}
use Rattle.std.proofs.lemmas.Nat.Bits.{bit_at_set_same, bit_at_set_other}
use Rattle.ldm_cursor.proofs.marks.Marks.mark.Goals as goal

pub returns-clause-marked : goal.returns-clause-marked
returns-clause-marked c =
    let bits = c.args.self.now.bits in
    ap (λ j. bit_at (bit_or bits (1 * 2 ^ j % 2 ^ 64)) c.args.k) c.get.ensures.value ∙ bit_at_set_same w64 bits c.args.k c.get.ensures.bound

pub returns-clause-others : goal.returns-clause-others
returns-clause-others c =
    let bits = c.args.self.now.bits in
    λ i other. ap (λ j. bit_at (bit_or bits (1 * 2 ^ j % 2 ^ 64)) i) c.get.ensures.value ∙ bit_at_set_other w64 bits c.args.k c.get.ensures.bound i other
