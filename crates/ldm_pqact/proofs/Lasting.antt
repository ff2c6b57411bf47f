-- The signature of the last product that a cursor gave: over no call, over a step, and over one call after another.
use Rattle.std.proofs.Common.{◌≡◌, ◌∙◌, ℕ, List, [], ◌∷◌, ◌++◌, map, Option, Some, None, Result, refl, sym, ap}
use Rattle.std.proofs.lemmas.List.{append_cancel_left}
use Rattle.std.proofs.lemmas.List.Concat.{flat_map-append}
use Rattle.ldm_model.specs.declared.event.Event.TheVariants as event
use Rattle.ldm_model.specs.declared.event.Reply.{Reply}
use Rattle.ldm_model.specs.declared.event.Reply.TheVariants as reply
use Rattle.ldm_model.specs.declared.event.Entry.{Entry}
use Rattle.ldm_shared.specs.Givens.{Gave, Given, turn_reply}
use Rattle.ldm_shared.specs.Own.{own}
use Rattle.ldm_shared.specs.Passes.{PassView, Calls, FindsWorn, Grows}
use Rattle.ldm_shared.specs.Uses.{Uses, answer_by, step_answers}
use Rattle.ldm_shared.proofs.Made.{calls_none, calls_trans}
use Rattle.ldm_shared.proofs.Using.{uses_step, uses_worn}
use Rattle.ldm_actions.specs.Effects.{Action}
use Rattle.ldm_pqact.specs.declared.end.ActEnd.{ActEnd}
use Rattle.ldm_pqact.specs.Acting.{HandlesBy, Sight}
use Rattle.ldm_pqact.specs.Lasting.{LastGiven, last_behind, last_from}
use Rattle.ldm_pqact.specs.Work.{product_work}
use Rattle.ldm_pqact.proofs.Counting.{handled_uses}

pub last_from-append : (last : Option (List ℕ)) (first second : List Reply) → last_from last (first ++ second) ≡ last_from (last_from last first) second
last_from-append last [] second = refl
last_from-append last (answer ∷ first) second = last_from-append (last_behind last answer) first second

-- ---- calls

pub lasts_uses : (k : ℕ) (old new : PassView) (answers : List Reply) (last after : Option (List ℕ)) → Uses k old new answers → after ≡ last_from last answers
    → LastGiven old new last after
lasts_uses k old new answers last after uses is = record {
  called = uses.called;
  calls = uses.calls;
  is_last = is ∙ ap (λ (xs : List Reply). last_from last xs) (sym uses.answered);
}

pub lasts_none : (pass : PassView) (last : Option (List ℕ)) → LastGiven pass pass last last
lasts_none pass last = record { called = []; calls = calls_none pass; is_last = refl }

pub lasts_then : (a b c : PassView) (last mid after : Option (List ℕ)) → LastGiven a b last mid → LastGiven b c mid after → LastGiven a c last after
lasts_then a b c last mid after one two =
    let first = step_answers one.called in
    let second = step_answers two.called in
    let all : step_answers (one.called ++ two.called) ≡ first ++ second =
    flat_map-append (λ (entry : Entry). answer_by entry.event entry.reply) one.called two.called in
    record {
      called = one.called ++ two.called;
      calls = calls_trans a b c one.called two.called one.calls two.calls;
      is_last =
          two.is_last
          ∙ (ap (λ (l : Option (List ℕ)). last_from l second) one.is_last
          ∙ (sym (last_from-append last first second) ∙ ap (λ (xs : List Reply). last_from last xs) (sym all)));
    }

-- the last product is that of the answers of its steps
pub lasts_by : (k : ℕ) (old new : PassView) (answers : List Reply) (last after : Option (List ℕ)) → Uses k old new answers → LastGiven old new last after
    → after ≡ last_from last answers
lasts_by k old new answers last after uses lasts =
    let same = append_cancel_left (own old.actor old.seen) lasts.called uses.called (sym lasts.calls.adds.own ∙ uses.calls.adds.own) in
    lasts.is_last ∙ ap (λ (xs : List Reply). last_from last xs) (ap step_answers same ∙ uses.answered)

-- ---- a step

-- no product was given
pub lasts_no_product : (k : ℕ) (old new : PassView) (answer : Reply) (last : Option (List ℕ)) → last ≡ last_behind last answer → Grows old new (event.Step k) answer
    → LastGiven old new last last
lasts_no_product k old new answer last none grows = lasts_uses k old new (answer ∷ []) last last (uses_step k old new answer grows) none

pub lasts_worn : (k turns : ℕ) (old new : PassView) (last : Option (List ℕ)) → FindsWorn old new turns → LastGiven old new last last
lasts_worn k turns old new last worn = lasts_uses k old new [] last last (uses_worn k turns old new worn) refl

pub lasts_product : (result : Result (Unit {0}) ActEnd) (k : ℕ) (given : Given) (deeds : List (Action × List ℕ)) (lines : List ℕ) (old : PassView) (mid new : Sight)
    (last after : Option (List ℕ)) → Grows old mid.pass (event.Step k) (turn_reply (Gave given)) → HandlesBy result k (product_work deeds lines) mid new
    → after ≡ Some given.product.info.signature → LastGiven old new.pass last after
lasts_product result k given deeds lines old mid new last after grows handled is =
    lasts_then old mid.pass new.pass last after after
    (lasts_uses k old mid.pass (turn_reply (Gave given) ∷ []) last after (uses_step k old mid.pass (turn_reply (Gave given)) grows) is)
    (lasts_uses k mid.pass new.pass [] after after (handled_uses result k deeds lines mid new handled) refl)
