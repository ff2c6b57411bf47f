use Rattle.std.proofs.Common.{◌≡◌, ◌∙◌, false, true, drop, length, refl, sym, ap}
use Rattle.std.proofs.lemmas.Result.{err_from_is_err_and}
use Rattle.std.specs.Option.{ok_or}
use Rattle.ldm_pqact_conf.specs.declared.fault.PqactKind.TheVariants as kind
use Rattle.ldm_pqact_conf.specs.Actions.{takes}
use Rattle.ldm_pqact_conf.specs.Entries.{dashes, options_of, pattern_of, with_fields}
use Rattle.ldm_pqact_conf.specs.Kept.{fields_view}
use Rattle.ldm_pqact_conf.proofs.Faults.{of_part, same_kind}
use Rattle.ldm_pqact_conf.proofs.parse.read_fields.Goals as goal

pub returns-in_default : goal.returns-in_default
unfolding with_fields
returns-in_default c = rw c.in_default.ensures.number refl

pub returns-in_err-pattern : goal.returns-in_err-pattern
unfolding with_fields
returns-in_err-pattern c =
    let why = err_from_is_err_and c.from_residual.result c.from_residual.ensures.1 in
    rw (why.1, why.2)
    (of_part (pattern_of c.args.fields.pattern.now) (with_fields c.args.line (fields_view c.args.fields) c.args.words.items) c.in_err-pattern.field-0.0
    (λ is. rw (c.in-Ok.ensures.number, is) refl) c.in_err-pattern.ensures)

pub returns-in_err-action : goal.returns-in_err-action
unfolding with_fields
returns-in_err-action c =
    let why = err_from_is_err_and c.from_residual-in_err-action.result c.from_residual-in_err-action.ensures.1 in
    let bad = c.in_err-action.ensures in
    let none = sym c.of_name.ensures ∙ bad.ok_part in
    let cause = same_kind (ok_or c.of_name.result kind.Action) _ _ bad.value (ap (λ o. ok_or o kind.Action) bad.ok_part) in
    rw (why.1, why.2, cause) (rw (c.in-Ok.ensures.number, c.in_ok-pattern.ensures, none) refl)

pub returns-in_err-options : goal.returns-in_err-options
unfolding with_fields
returns-in_err-options c =
    let why = err_from_is_err_and c.from_residual-in_err-options.result c.from_residual-in_err-options.ensures.1 in
    let named = sym c.of_name.ensures ∙ c.in_ok-action.ensures.ok_part in
    rw (why.1, why.2)
    (of_part (options_of c.in_ok-action.action c.args.words.items) (with_fields c.args.line (fields_view c.args.fields) c.args.words.items) c.in_err-options.field-0.0
    (λ is. rw (c.in-Ok.ensures.number, c.in_ok-pattern.ensures, named, is) refl) c.in_err-options.ensures)

pub returns-then-not-takes : goal.returns-then-not-takes
unfolding with_fields
returns-then-not-takes c =
    let words = c.args.words.items in
    let named = sym c.of_name.ensures ∙ c.in_ok-action.ensures.ok_part in
    let left = c.as_slice.ensures.value ∙ c.in_ok-options.ensures.1 in
    let fits : takes c.in_ok-action.action (length (drop (dashes words) words)) ≡ false = rw (← left) (sym c.takes.ensures ∙ c.if-not-takes.true) in
    rw (c.in-Ok.ensures.number, c.in_ok-pattern.ensures, named, c.in_ok-options.ensures.0, fits) refl

pub returns : goal.returns
unfolding with_fields
returns c =
    let words = c.args.words.items in
    let named = sym c.of_name.ensures ∙ c.in_ok-action.ensures.ok_part in
    let left = c.as_slice.ensures.value ∙ c.in_ok-options.ensures.1 in
    let fits : takes c.in_ok-action.action (length (drop (dashes words) words)) ≡ true = rw (← left) (sym c.takes.ensures ∙ c.if-not-takes.false) in
    rw (c.in-Ok.ensures.number, c.in_ok-pattern.ensures, named, c.in_ok-options.ensures.0, fits, c.in_ok-options.ensures.1) refl
