use Rattle.std.proofs.Common.{◌∙◌, arith}
use Rattle.regex.specs.Bytes.{matcher_pattern}
use Rattle.ldm_pattern.proofs.Meanings.{search_finds}
use Rattle.ldm_pattern.proofs.matcher.Matcher.finds.Goals as goal

pub invariant_of-self : goal.invariant_of-self
invariant_of-self c = rw c.is_match.ensures.same c.self.invariant

pub returns-clause-found : goal.returns-clause-found
returns-clause-found c =
    c.is_match.ensures.found
    ∙ rw (← c.self.view_is) (search_finds c.self.inside.pattern.now (matcher_pattern c.self.inside.search) c.args.text.now (λ k. omega (arith, c.type_inv.text k)) c.self.invariant)
