use Rattle.std.proofs.Common.{ℕ, List, [], ◌∷◌, ◌++◌, sym, ap, ◌∙◌}
use Rattle.std.proofs.lemmas.List.{append_assoc}
use Rattle.ldm_answers.proofs.Unspelling.{spelled_escape}
use Rattle.ldm_answers.proofs.texts.spell_byte.Goals as goal

pub returns-else-is_plain-clause-text : goal.returns-else-is_plain-clause-text
returns-else-is_plain-clause-text g c =
    let out = c.args.out.now.items in
    let high = c.digit.result in
    let low = c.digit-else-is_plain.result in
    c.push-else-is_plain-3.ensures.items ∙ ap (λ (l : List ℕ). l ++ low ∷ []) (c.push-else-is_plain-2.ensures.items ∙ ap (λ (l : List ℕ). l ++ high ∷ []) c.push-else-is_plain.ensures.items)
    ∙ append_assoc (out ++ 37 ∷ []) (high ∷ []) (low ∷ []) ∙ append_assoc out (37 ∷ []) (high ∷ low ∷ [])
    ∙ ap (λ (l : List ℕ). out ++ l) (spelled_escape c.args.byte high low (sym c.is_plain.ensures ∙ c.if-is_plain.false) c.digit.ensures c.digit-else-is_plain.ensures)
