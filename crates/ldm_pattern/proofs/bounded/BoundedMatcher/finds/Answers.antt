use Rattle.std.proofs.Common.{◌∙◌, sym, ap, is_some, arith}
use Rattle.ldm_pattern.proofs.Compiled.{end_found}
use Rattle.ldm_pattern.proofs.bounded.BoundedMatcher.finds.Goals as goal

pub returns-in-At-clause-found : goal.returns-in-At-clause-found
returns-in-At-clause-found c =
    let nfa = c.self.inside.dfa.now.nfa in
    let text = c.args.text.now in
    let told = c.in-At.ensures.end in
    sym told.0 ∙ rw (← c.self.view_is) (end_found c.self.inside.source.now nfa c.self.invariant.finds text (λ k. omega (arith, c.type_inv.text k)))

pub returns-in-NoMatch-clause-found : goal.returns-in-NoMatch-clause-found
returns-in-NoMatch-clause-found c =
    let nfa = c.self.inside.dfa.now.nfa in
    let text = c.args.text.now in
    sym (ap is_some c.in-NoMatch.ensures.end)
    ∙ rw (← c.self.view_is) (end_found c.self.inside.source.now nfa c.self.invariant.finds text (λ k. omega (arith, c.type_inv.text k)))
