use Rattle.std.proofs.Common.{◌≡◌, ◌∙◌, ℕ, List, [], ◌∷◌, ◌++◌, sym, ap, subst, arith}
use Rattle.std.specs.List.{All}
use Rattle.ldm_model.specs.declared.event.Entry.{Entry}
use Rattle.ldm_model.specs.History.{after, IsLegal}
use Rattle.ldm_book.specs.Stands.{StandsFor}
use Rattle.ldm_shared.specs.Passes.{HasAllOf, PassView}
use Rattle.ldm_chain.proofs.TextLemmas.{ends-as}
use Rattle.ldm_chain.proofs.texts.book_of.Goals as goal

pub returns-clause-stands : goal.returns-clause-stands
returns-clause-stands c =
    let node = c.args.node in
    let pass = node.pass in
    let last = c.finish-book.result.1 in
    let sole = c.requires.2 in
    let is : c.push_reserved.new.self.items ≡ pass ∷ [] = c.push_reserved.ensures.items ∙ ap (λ (ps : List PassView). ps ++ pass ∷ []) c.in_ok-passes.ensures.items in
    let all = subst (λ (ps : List PassView). All (HasAllOf last) ps) is c.finish-book.ensures.all in
    let ends = ends-as c.one_pass.ensures.all_own c.calls_made.ensures.front node.shared pass last c.finish-book.ensures.last (all 0 pass (omega arith))
    (sym sole.of.passes ∙ sole.passes) sole.actor in
    subst (λ (a : ℕ). StandsFor c.finish-book.result.0 (after a pass.slots pass.seen)) (sym sole.of.arena)
    (subst (λ (n : ℕ). StandsFor c.finish-book.result.0 (after node.shared.arena n pass.seen)) (sym sole.of.slots)
    (subst (λ (seen : List Entry). StandsFor c.finish-book.result.0 (after node.shared.arena node.shared.slots seen)) ends.same c.finish-book.ensures.stands))

pub returns-clause-legal : goal.returns-clause-legal
returns-clause-legal c =
    let node = c.args.node in
    let pass = node.pass in
    let last = c.finish-book.result.1 in
    let sole = c.requires.2 in
    let is : c.push_reserved.new.self.items ≡ pass ∷ [] = c.push_reserved.ensures.items ∙ ap (λ (ps : List PassView). ps ++ pass ∷ []) c.in_ok-passes.ensures.items in
    let all = subst (λ (ps : List PassView). All (HasAllOf last) ps) is c.finish-book.ensures.all in
    let ends = ends-as c.one_pass.ensures.all_own c.calls_made.ensures.front node.shared pass last c.finish-book.ensures.last (all 0 pass (omega arith))
    (sym sole.of.passes ∙ sole.passes) sole.actor in
    subst (λ (a : ℕ). IsLegal a pass.slots pass.seen) (sym sole.of.arena)
    (subst (λ (n : ℕ). IsLegal node.shared.arena n pass.seen) (sym sole.of.slots) ends.legal)
