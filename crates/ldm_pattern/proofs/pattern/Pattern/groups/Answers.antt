use Rattle.std.proofs.Common.{◌∙◌, ◌<◌, ℕ, Some, get_or, is_some, sym, ap, arith}
use Rattle.regex.specs.Patterns.{Re, find}
use Rattle.ldm_pattern.proofs.Meanings.{finds}
use Rattle.ldm_pattern.proofs.GroupMeanings.{captured, group_parts_found, none_from_test, parts_are}
use Rattle.ldm_pattern.proofs.pattern.Pattern.groups.Goals as goal

pub returns-in-Some-clause-parts : goal.returns-in-Some-clause-parts
returns-in-Some-clause-parts c =
    let built = c.self.invariant in
    let text = c.args.text.now in
    let captures = c.in-Some.ensures.found.2 in
    let first = ap (λ (re : Re). find re text 0) (sym c.in_ok-matcher.ensures.pattern) ∙ c.in-Some.ensures.found.1 in
    let bytes : (k : ℕ) → get_or text k 0 < 256 = λ k. omega (arith, c.type_inv.text k) in
    ap Some (c.of.ensures ∙ captured c.in-Some.captures text c.in-Some.ensures.found.0 captures.0 captures.2)
    ∙ sym (rw (← c.self.view_is) (parts_are c.self.inside.regex built.utf8 built.config built.read text bytes c.in-Some.ensures.found.0 first))

pub returns-in-Some-clause-found : goal.returns-in-Some-clause-found
returns-in-Some-clause-found c =
    let built = c.self.invariant in
    let text = c.args.text.now in
    let first = ap (λ (re : Re). find re text 0) (sym c.in_ok-matcher.ensures.pattern) ∙ c.in-Some.ensures.found.1 in
    ap is_some (sym first)
    ∙ rw (← c.self.view_is) (finds c.self.inside.regex built.utf8 built.config built.read text (λ k. omega (arith, c.type_inv.text k)))

pub returns-clause-parts : goal.returns-clause-parts
returns-clause-parts c =
    let built = c.self.invariant in
    let text = c.args.text.now in
    let none = ap (λ (re : Re). find re text 0) (sym c.in_ok-matcher.ensures.pattern) ∙ c.in-None.ensures.found in
    let test = ap is_some (sym none)
    ∙ rw (← c.self.view_is) (finds c.self.inside.regex built.utf8 built.config built.read text (λ k. omega (arith, c.type_inv.text k))) in
    sym (none_from_test _ (group_parts_found c.args.self.now text ∙ sym test))

pub returns-clause-found : goal.returns-clause-found
returns-clause-found c =
    let built = c.self.invariant in
    let text = c.args.text.now in
    let none = ap (λ (re : Re). find re text 0) (sym c.in_ok-matcher.ensures.pattern) ∙ c.in-None.ensures.found in
    ap is_some (sym none)
    ∙ rw (← c.self.view_is) (finds c.self.inside.regex built.utf8 built.config built.read text (λ k. omega (arith, c.type_inv.text k)))
