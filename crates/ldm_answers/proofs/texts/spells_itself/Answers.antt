use Rattle.std.proofs.Common.{◌≡◌, ◌∙◌, ◌==◌, ◌&&◌, Bool, false, not, length, sym, ap}
use Rattle.std.specs.List.{list_all}
use Rattle.ldm_answers.specs.Texts.{is_plain}
use Rattle.ldm_answers.proofs.texts.spells_itself.Goals as goal

pub returns-then-not-is_empty : goal.returns-then-not-is_empty
returns-then-not-is_empty c =
    let some : (length c.args.field.now == 0) ≡ false = cc in
    c.are_plain.ensures ∙ ap (λ (b : Bool). not b && list_all is_plain c.args.field.now) (sym some)
