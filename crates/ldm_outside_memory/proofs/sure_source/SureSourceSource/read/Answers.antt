use Rattle.std.proofs.Common.{◌≡◌, ◌∙◌, ℕ, List, drop, Some, sym, ap, arith}
use Rattle.ldm_outside_memory.specs.Memory.{SureState}
use Rattle.std.proofs.lemmas.List.{take_rest}
use Rattle.ldm_outside_memory.proofs.CopyFront.{drop-copied}
use Rattle.ldm_outside_memory.proofs.sure_source.SureSourceSource.read.Goals as goal

pub returns-clause-given : goal.returns-clause-given
returns-clause-given c =
    let left : drop c.self.inside.at c.self.inside.bytes.items ≡ c.args.self.now.left = ap (λ (s : SureState). s.left) c.self.view_is in (
      omega arith,
      omega arith,
      ap (λ (xs : List ℕ). Some xs) (sym left ∙ drop-copied c.self.inside.bytes.items c.copy_front-n.new.into c.self.inside.at c.copy_front-n.result (rw (take_rest, c.deref.ensures.value) at c.copy_front-n.ensures.front)),
      ap (λ (s : SureState). s.ends) c.self.view_is,
    )
