use Rattle.std.proofs.Common.{◌∙◌, ℕ, List, ◌++◌, refl, sym, ap, arith}
use Rattle.ldm_model.specs.State.{queued}
use Rattle.ldm_book.specs.Listing.{queued_of}
use Rattle.ldm_chain.proofs.ListedLemmas.{left-none, none-past}
use Rattle.ldm_chain.proofs.TextLemmas.{listed-all, listed-more}
use Rattle.ldm_chain.proofs.texts.add_products.Goals as goal

pub loop-i-init : goal.loop-i-init
loop-i-init c = λ s stands. refl

pub returns-in_default : goal.returns-in_default
returns-in_default c = λ s stands.
    listed-all _ _ _ (left-none (queued s) c.loop-i.i (sym (c.in_default.ensures s stands))) (c.loop-i.invariant s stands)

pub loop-i-preserved : goal.loop-i-preserved
loop-i-preserved c = λ s stands.
    let line = c.as_slice.ensures.value ∙ c.write_answer.ensures in
    let text = c.loop-i.text.items in
    listed-more (queued s) c.loop-i.i (queued_of c.in-Some.product) _ text c.extend_from_slice.new.self.items (sym (c.in-Some.ensures s stands))
    (c.in_ok-extend_from_slice.ensures.items ∙ ap (λ (t : List ℕ). text ++ t) line) (c.loop-i.invariant s stands)

pub returns : goal.returns
returns c = λ s stands.
    listed-all _ _ _ (none-past c.args.book.now s c.loop-i.i stands (omega (arith, c.slots-i-end.ensures.slots, c.slots-i-end.ensures.few))) (c.loop-i.invariant s stands)
