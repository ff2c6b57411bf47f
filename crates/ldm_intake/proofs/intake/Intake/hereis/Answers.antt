use Rattle.std.proofs.Common.{List, ℕ, [], ◌∷◌, ◌++◌, sym, append-nil, ◌∙◌, ap}
use Rattle.std.specs.Prelude.{is_none}
use Rattle.ldm_intake.specs.Course.{Comes}
use Rattle.ldm_intake.specs.Notes.{Unwanted, note_lines}
use Rattle.ldm_intake.specs.Products.{hereis, hereis_wanted}
use Rattle.ldm_intake.specs.Receiving.{Receiving, with_last, is_wanted}
use Rattle.ldm_intake.specs.Step.{Goes, Bad}
use Rattle.ldm_intake.proofs.Calling.{goes_by_none, second_of}
use Rattle.ldm_intake.proofs.intake.Intake.hereis.Goals as goal

pub returns-in-Ok-false : goal.returns-in-Ok-false
returns-in-Ok-false g c = λ out.
    let self = c.args.self.now in
    let info = c.args.product.now.info in
    let body = c.args.product.now.body.now in
    let notes = Unwanted info.ident ∷ [] in
    let s = with_last self info in
    goes_by_none self c.pass_by.new.self s [] notes out out c.args.notes.now.items c.put_unwanted.new.notes.items
    (c.pass_by.ensures ∙ ap (λ (r : Receiving). with_last r info) c.in-Ok-false.ensures.same) (sym (append-nil out))
    (c.put_unwanted.ensures ∙ ap (λ (w : List ℕ). w ++ note_lines notes) c.note_room.ensures.same)
    (hereis self c.args.now info body) c.args.pass.now
    (second_of (is_none self.pending) (is_wanted self.wanting info) (hereis_wanted self c.args.now info body) (Comes (Goes s [] notes)) (Comes Bad)
    (sym c.is_idle.ensures ∙ c.if-not-is_idle.false) (sym c.in-Ok-false.ensures.wanted ∙ c.in-Ok-false.field-0-test))
