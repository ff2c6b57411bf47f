use Rattle.std.proofs.Common.{◌≡◌, ◌≢◌, ◌<◌, ◌^◌, false, eqb, ap, arith}
use Rattle.std.specs.Prelude.{bit_and}
use Rattle.std.proofs.Math.Bool.{not}
use Rattle.std.proofs.lemmas.Bool.{not-true, eqb-false, ne_eqb}
use Rattle.std.proofs.lemmas.Nat.{and_le_l}
use Rattle.ldm_types.proofs.Bits.{ShareBit-from_and, and-from_ShareBit}
use Rattle.ldm_types.proofs.feed.Feed.meets.Goals as goal

pub returns-clause-shared : goal.returns-clause-shared
returns-clause-shared c =
    let a = c.args.self.0 in
    let b = c.args.other.0 in
    let bound : a < 2 ^ 32 = omega arith in (
      λ yes.
          let differs : eqb (bit_and a b) 0 ≡ false = not-true _ yes in
          let some : bit_and a b ≢ 0 = eqb-false _ _ differs in
          ShareBit-from_and a b (omega arith) (omega (arith, and_le_l a b)),
      λ shared. ap not (ne_eqb (bit_and a b) 0 (and-from_ShareBit a b shared)),
    )
