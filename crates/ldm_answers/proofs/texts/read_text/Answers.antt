use Rattle.std.proofs.Common.{◌≡◌, ◌∙◌, false, codes, sym, arith}
use Rattle.std.specs.Prelude.{bytes_eq}
use Rattle.ldm_answers.specs.Texts.{text_up_to}
use Rattle.ldm_answers.proofs.ReadFields.{no_text, some_text, text_up_to_itself, itself_free}
use Rattle.ldm_answers.proofs.texts.read_text.Goals as goal

pub returns-then-spells_itself-clause-value : goal.returns-then-spells_itself-clause-value
returns-then-spells_itself-clause-value c =
    let other : bytes_eq c.args.field.now (codes "-") ≡ false = cc in
    sym (text_up_to_itself c.args.most c.args.field.now other (sym c.spells_itself.ensures ∙ c.if-spells_itself.true) (omega (arith, c.if-field-most.true)))

pub returns-then-spells_itself-clause-no_nul : goal.returns-then-spells_itself-clause-no_nul
returns-then-spells_itself-clause-no_nul c = itself_free c.args.field.now (sym c.spells_itself.ensures ∙ c.if-spells_itself.true)

pub returns-then-is_text-clause-value : goal.returns-then-is_text-clause-value
returns-then-is_text-clause-value c = some_text (text_up_to c.args.most c.args.field.now) (sym c.is_text.ensures.value ∙ c.if-is_text.true)

pub returns-else-is_text-clause-value : goal.returns-else-is_text-clause-value
returns-else-is_text-clause-value c = no_text (text_up_to c.args.most c.args.field.now) (sym c.is_text.ensures.value ∙ c.if-is_text.false)
