use Rattle.std.proofs.Common.{List, ℕ, ◌++◌, ap, map, ◌∙◌, arith, take_all}
use Rattle.std.specs.Char.{to_ascii_lowercase}
use Rattle.ldm_script.proofs.Appending.{lower_digits-of}
use Rattle.ldm_script.proofs.write.append_digits.Goals as goal

pub returns : goal.returns
returns c =
    c.loop-digit.invariant.text
    ∙ ap (λ (l : List ℕ). c.args.out.now.items ++ map to_ascii_lowercase l) (take_all _ _ (omega arith))
    ∙ ap (λ (l : List ℕ). c.args.out.now.items ++ l) (lower_digits-of c.args.digits.now c.requires.read)
