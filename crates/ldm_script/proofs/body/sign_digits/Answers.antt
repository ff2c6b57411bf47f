use Rattle.std.proofs.Common.{◌≡◌, ℕ, List, ◌++◌, take, drop, ◌-◌, Some, sym, ap, ◌∙◌, arith}
use Rattle.std.specs.Option.{option_map}
use Rattle.md5.specs.Md5.{md5}
use Rattle.ldm_script.specs.Bodies.{digits_of}
use Rattle.ldm_script.proofs.Hexadecimal.{piece_some, one_piece, all_pieces, even_digits}
use Rattle.ldm_script.proofs.body.sign_digits.Goals as goal

pub digits_into-count-requires-clause-read : goal.digits_into-count-requires-clause-read
digits_into-count-requires-clause-read c =
    let even = even_digits c.args.digits.now c.requires in
    piece_some c.args.digits.now c.loop-at.invariant.so_far.0 c.loop-at.at c.min-end.result (omega arith) (omega arith) (omega arith) c.loop-at.invariant.so_far.2 c.requires

pub loop-at-preserved : goal.loop-at-preserved
loop-at-preserved c =
    let even = even_digits c.args.digits.now c.requires in
    let so_far = c.loop-at.invariant.so_far in
    let into = c.digits_into-count.new.into in
    let x = take c.digits_into-count.result into in
    let is : Some x ≡ digits_of (take (c.min-end.result - c.loop-at.at) (drop c.loop-at.at c.args.digits.now)) =
    ap (λ (n : ℕ). Some (take n into)) c.digits_into-count.ensures.len ∙ c.digits_into-count.ensures.written in
    record {
      within = omega arith;
      even = omega arith;
      so_far = (so_far.0 ++ x, c.update.ensures so_far.0 so_far.1, one_piece c.args.digits.now so_far.0 x c.loop-at.at c.min-end.result (omega arith) (omega arith) (omega arith) is so_far.2);
    }

pub returns : goal.returns
returns c =
    let so_far = c.loop-at.invariant.so_far in
    ap (λ (l : List ℕ). Some l) (c.finalize.ensures so_far.0 so_far.1) ∙ sym (ap (option_map md5) (all_pieces c.args.digits.now so_far.0 c.loop-at.at c.loop-at-test.false so_far.2))
