use Rattle.std.proofs.Common.{◌≡◌, ◌∙◌, Option, Some, sym, ap, subst}
use Rattle.std.specs.Option.{option_map}
use Rattle.ldm_types.specs.declared.signature.Signature.{Signature}
use Rattle.ldm_class.specs.Classes.{resumed}
use Rattle.ldm_shared.specs.Passes.{PassView, FindsWorn}
use Rattle.ldm_sender.specs.Opening.{feeds_of}
use Rattle.ldm_sender.proofs.Beginning.{worn_at_once, worn_behind}
use Rattle.ldm_sender.proofs.answer.open_for.Goals as goal
use Rattle.ldm_sender.proofs.answer.open_for.Goals.{in-Some+in-Done-NotQueued, in_default}

pub returns-in-Worn-open-clause-opens : goal.returns-in-Worn-open-clause-opens
returns-in-Worn-open-clause-opens g c = λ asked class_is.
    let class = c.args.class.now in
    let old = c.args.pass.now in
    let new = c.open-2.new.pass in
    let P : PassView → Type 0 = λ pass. FindsWorn pass new c.in-Worn-open.turns in
    elim c.match-resume.branch [
      | in-Some+in-Done-NotQueued w ↦
          let named : resumed class.specs.items ≡ Some w.in-Some.signature.0 =
          sym c.resume.ensures
          ∙ ap (λ (o : Option Signature). option_map (λ (signature : Signature). signature.0) o) w.in-Some.is in
          let feeds : c.feeds_of-feeds.result.0 ≡ feeds_of class = c.feeds_of-feeds.ensures
          ∙ ap feeds_of c.spec.ensures in
          worn_behind asked class w.in-Some.signature.0 c.feeds_of-feeds.result.0 old w.open.new.pass new
          c.in-Worn-open.turns class_is named feeds
          (rw w.in-Done-NotQueued.field-0-is at w.in-Done-NotQueued.ensures.done)
          (subst P w.pass-is c.in-Worn-open.ensures.worn)
      | in_default w ↦ worn_at_once asked old new c.in-Worn-open.turns (subst P w.pass-is c.in-Worn-open.ensures.worn)
    ]
