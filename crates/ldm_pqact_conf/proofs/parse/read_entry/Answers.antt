use Rattle.std.proofs.Common.{◌∙◌, sym, ap}
use Rattle.std.proofs.lemmas.Result.{err_from_is_err_and}
use Rattle.std.specs.Option.{ok_or, option_map}
use Rattle.ldm_pqact_conf.specs.declared.fault.PqactKind.TheVariants as kind
use Rattle.ldm_pqact_conf.specs.Entries.{entry_of}
use Rattle.ldm_pqact_conf.specs.Kept.{fields_view}
use Rattle.ldm_pqact_conf.specs.Lines.{Raw}
use Rattle.ldm_pqact_conf.specs.Arguments.{arguments_of}
use Rattle.ldm_pqact_conf.proofs.Faults.{of_part, same_kind}
use Rattle.ldm_pqact_conf.proofs.Parsing.{no_fields, bad_words, by_fields}
use Rattle.ldm_pqact_conf.proofs.parse.read_entry.Goals as goal

pub returns-in_err-fields : goal.returns-in_err-fields
returns-in_err-fields c =
    let raw : Raw = record { line = c.args.line; text = c.args.text.now } in
    let why = err_from_is_err_and c.from_residual.result c.from_residual.ensures.1 in
    let bad = c.in_err-fields.ensures in
    let none = sym c.split_fields.ensures ∙ ap (option_map fields_view) bad.ok_part in
    let cause = same_kind (ok_or c.split_fields.result kind.Fields) _ _ bad.value (ap (λ o. ok_or o kind.Fields) bad.ok_part) in
    rw (why.1, why.2, cause) (no_fields raw none)

pub returns-in_err-words : goal.returns-in_err-words
returns-in_err-words c =
    let raw : Raw = record { line = c.args.line; text = c.args.text.now } in
    let fields = c.in_ok-fields.fields in
    let why = err_from_is_err_and c.from_residual-in_err-words.result c.from_residual-in_err-words.ensures.1 in
    let is = sym c.split_fields.ensures ∙ ap (option_map fields_view) c.in_ok-fields.ensures.ok_part in
    rw (why.1, why.2)
    (of_part (ok_or (arguments_of fields.arguments.now) kind.Fields) (entry_of raw) c.in_err-words.field-0.0
    (bad_words raw (fields_view fields) c.in_err-words.field-0.0 is) c.in_err-words.ensures)

pub returns : goal.returns
returns c =
    let raw : Raw = record { line = c.args.line; text = c.args.text.now } in
    let fields = c.in_ok-fields.fields in
    let is = sym c.split_fields.ensures ∙ ap (option_map fields_view) c.in_ok-fields.ensures.ok_part in
    rw (by_fields raw (fields_view fields) c.in_ok-words.words.items is c.in_ok-words.ensures) c.read_fields.ensures
