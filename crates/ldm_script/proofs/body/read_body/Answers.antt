use Rattle.std.proofs.Common.{◌≡◌, true, false, List, [], ℕ, length, codes, Option, Some, unwrap_or, sym, ap, subst, ◌∙◌, arith}
use Rattle.std.proofs.lemmas.Bool.{eqb-false}
use Rattle.std.specs.Borrow.{Bor}
use Rattle.ldm_script.specs.Split.{Cuts}
use Rattle.std.proofs.lemmas.List.{take_rest, length-drop}
use Rattle.std.specs.Prelude.{bytes_eq, is_some}
use Rattle.ldm_script.proofs.Bodies.{dash_some, dash_body, digits_body, fill_body, no_body}
use Rattle.ldm_script.proofs.body.read_body.Goals as goal

pub returns-then-eq-clause-value : goal.returns-then-eq-clause-value
returns-then-eq-clause-value c =
    let is : bytes_eq c.args.field.now (codes "-") ≡ true = cc in
    rw take_rest (ap (λ (o : Option (List ℕ)). Some (unwrap_or o [])) (dash_some c.args.field.now is) ∙ sym (dash_body c.args.field.now is))

pub returns-then-eq-clause-fits : goal.returns-then-eq-clause-fits
returns-then-eq-clause-fits c =
    let is : bytes_eq c.args.field.now (codes "-") ≡ true = cc in
    (rw take_rest (ap (λ (o : Option (List ℕ)). is_some o) (dash_some c.args.field.now is)), rw take_rest (omega (arith, length-drop 1 c.args.field.now)))

pub returns-in_default-clause-value : goal.returns-in_default-clause-value
returns-in_default-clause-value c =
    let other : bytes_eq c.args.field.now (codes "-") ≡ false = cc in
    let some = eqb-false (length c.args.field.now) 0 (sym c.is_empty.ensures ∙ c.if-is_empty.false) in
    let cuts = subst (λ (o : Option (Bor (List ℕ))). Cuts 42 c.args.field.now c.split_first.result.0.now o) c.in_default.is c.split_first.ensures in
    c.read_digits.ensures.value ∙ sym (digits_body c.args.field.now c.split_first.result.0.now some other cuts)

pub returns-then-is_some-clause-value : goal.returns-then-is_some-clause-value
returns-then-is_some-clause-value c =
    let other : bytes_eq c.args.field.now (codes "-") ≡ false = cc in
    let some = eqb-false (length c.args.field.now) 0 (sym c.is_empty.ensures ∙ c.if-is_empty.false) in
    let cuts = subst (λ (o : Option (Bor (List ℕ))). Cuts 42 c.args.field.now c.split_first.result.0.now o) c.in-Some.is c.split_first.ensures in
    sym (no_body c.args.field.now c.split_first.result.0.now c.split_first-2.result.0.now
    c.in-Some.behind c.split_first-2.result.1 some other cuts c.split_first-2.ensures (sym c.is_some.ensures ∙ c.if-is_some.true))

pub returns-clause-value : goal.returns-clause-value
returns-clause-value c =
    let other : bytes_eq c.args.field.now (codes "-") ≡ false = cc in
    let some = eqb-false (length c.args.field.now) 0 (sym c.is_empty.ensures ∙ c.if-is_empty.false) in
    let cuts = subst (λ (o : Option (Bor (List ℕ))). Cuts 42 c.args.field.now c.split_first.result.0.now o) c.in-Some.is c.split_first.ensures in
    c.read_fill.ensures.value
    ∙ sym (fill_body c.args.field.now c.split_first.result.0.now c.split_first-2.result.0.now
    c.in-Some.behind c.split_first-2.result.1 some other cuts c.split_first-2.ensures (sym c.is_some.ensures ∙ c.if-is_some.false))
