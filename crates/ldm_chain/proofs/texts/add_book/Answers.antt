use Rattle.std.proofs.Common.{◌∙◌, List, ℕ, ◌++◌, sym, ap, subst}
use Rattle.ldm_book.specs.View.{BookView}
use Rattle.ldm_book.specs.Stands.{StandsFor}
use Rattle.ldm_answers.specs.Answer.{answer_line}
use Rattle.ldm_chain.proofs.TextLemmas.{node-text-is, stat-is}
use Rattle.ldm_chain.proofs.texts.add_book.Goals as goal

pub returns : goal.returns
returns c = λ s stands.
    let still = subst (λ (b : BookView). StandsFor b s) (sym c.stat-stat.ensures.unchanged) stands in
    let text = c.args.text.now.items in
    let one = c.extend_from_slice.new.self.items in
    let two = c.add_products.new.text.items in
    let full = c.from.ensures ∙ stat-is c.stat-stat.result s c.stat-stat.new.self (c.stat-stat.ensures.answers s stands) in
    node-text-is c.args.i s text one two c.extend_from_slice-2.new.self.items
    (c.in_ok-extend_from_slice.ensures.items ∙ ap (λ (t : List ℕ). text ++ t) (c.as_slice.ensures.value ∙ c.write_node.ensures))
    (c.in_ok-add_products.ensures s still)
    (c.in_ok-extend_from_slice-2.ensures.items ∙ ap (λ (t : List ℕ). two ++ t) (c.as_slice-2.ensures.value ∙ c.write_answer.ensures ∙ ap answer_line full))
