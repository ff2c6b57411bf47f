use Rattle.std.proofs.Common.{refl, sym, ap, ◌∙◌}
use Rattle.ldm_script.specs.FieldsView.{seen}
use Rattle.ldm_script.proofs.Splitting.{first_field-of, behind_field-of}
use Rattle.ldm_script.proofs.fields.Fields.next.Goals as goal

pub returns-clause-field : goal.returns-clause-field
returns-clause-field c = record {
  rest = c.in-Some.rest.now;
  old_is = sym c.self.view_is ∙ ap seen c.in-Some.is;
  text_is = first_field-of c.in-Some.rest.now c.split_first.result.0.now c.split_first.result.1 c.split_first.ensures;
  left_is = refl;
  new_is = behind_field-of c.in-Some.rest.now c.split_first.result.0.now c.split_first.result.1 c.split_first.ensures;
}
