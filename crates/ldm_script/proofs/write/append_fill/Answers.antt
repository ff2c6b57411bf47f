use Rattle.std.proofs.Common.{List, ℕ, ◌≡◌, ◌∷◌, [], ◌++◌, ap, sym, ◌∙◌, length, arith, replicate, rules}
use Rattle.std.proofs.lemmas.List.{append-nil, append_assoc}
use Rattle.hex.specs.Hex.{encode_lower, lower_digits}
use Rattle.hex.proofs.HexLemmas.{length-encode_with}
use Rattle.ldm_script.proofs.Appending.{encode_lower-none, encode_lower-one_more}
use Rattle.ldm_script.proofs.write.append_fill.Goals as goal

pub loop-init : goal.loop-init
loop-init c = record {
  room = omega arith;
  text = sym (ap (λ (l : List ℕ). c.args.out.now.items ++ l) (encode_lower-none c.args.byte) ∙ append-nil c.args.out.now.items);
}

pub loop-preserved : goal.loop-preserved
loop-preserved c =
    let pair : c.encode_to_slice.new.output ≡ encode_lower (c.args.byte ∷ []) = search rules in
    let two : length c.encode_to_slice.new.output ≡ 2 = ap length pair ∙ length-encode_with lower_digits (c.args.byte ∷ []) in
    record {
      room = omega (arith, c.loop.invariant.room);
      text = c.append.ensures.text
          ∙ ap (λ (l : List ℕ). l ++ c.encode_to_slice.new.output) c.loop.invariant.text
          ∙ append_assoc c.args.out.now.items (encode_lower (replicate c.loop.counter c.args.byte)) c.encode_to_slice.new.output
          ∙ ap (λ (l : List ℕ). c.args.out.now.items ++ (encode_lower (replicate c.loop.counter c.args.byte) ++ l)) pair
          ∙ ap (λ (l : List ℕ). c.args.out.now.items ++ l) (encode_lower-one_more c.loop.counter c.args.byte);
    }
