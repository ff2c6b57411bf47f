use Rattle.regex_hir.specs.Meaning.{meaning}
use Rattle.ldm_pattern.proofs.Compiled.{compiled_finds}
use Rattle.ldm_pattern.proofs.bounded.BoundedPattern.build.Goals as goal

pub invariant_of-result : goal.invariant_of-result
invariant_of-result c =
    rw (c.in_ok-to_vec.ensures.items_if_clones_equal (λ _ _ e. e), c.in-Ok-new.ensures.same)
    (compiled_finds c.args.source.now (meaning c.in_ok-parsed.parsed.hir) c.in-Ok-compile.nfa c.in_ok-parsed.ensures c.in-Ok-compile.ensures.matches)
