-- Records that ask nothing of the queue, and how the receiving goes on.
use Rattle.std.proofs.Common.{◌≡◌, ℕ, Bool, true, false, List, [], ◌∷◌, ◌++◌, Option, None, Result, Ok, Err, sym, ap, subst, ◌∙◌, append-nil}
use Rattle.std.specs.Prelude.{if◌then◌else◌, is_none, OnOk}
use Rattle.std.specs.Result.{is_err}
use Rattle.ldm_types.specs.declared.class.ClassSpec.{ClassSpec}
use Rattle.ldm_class.specs.Classes.{bad_place}
use Rattle.ldm_relay.specs.declared.message.ClassAnswer.{ClassAnswer}
use Rattle.ldm_relay.specs.declared.message.ClassAnswer.TheVariants as class_answer
use Rattle.ldm_relay.specs.Sent.{Sent}
use Rattle.ldm_relay.specs.Sent as sent
use Rattle.ldm_shared.specs.Passes.{PassView}
use Rattle.ldm_intake.proofs.Calling.{calls_none}
use Rattle.ldm_intake.specs.declared.phase.Phase.TheVariants.{Asked, Feeding}
use Rattle.ldm_intake.specs.Answered.{asks_again, by_answer}
use Rattle.ldm_intake.specs.Course.{Comes}
use Rattle.ldm_intake.specs.Receiving.{Receiving}
use Rattle.ldm_relay.specs.Spelling.{records_of}
use Rattle.ldm_intake.specs.Step.{Step, Goes, Bad}
use Rattle.ldm_intake.specs.TakesRecord.{GoesOn, stands}

-- what holds where a call succeeds, of one that did not fail
pub of_ok : {A E : Type 0} (r : Result A E) (P : Type 0) (failed : Bool) → failed ≡ is_err r → failed ≡ false → OnOk r P → P
of_ok (Ok x) P failed is fine ok = ok
of_ok (Err e) P failed is fine ok = absurd (let same : true ≡ false = sym is ∙ fine in cc same)

module _ (pass : PassView) (out notes : List ℕ) (old new : Receiving) where
  -- nothing is owed, and nothing is logged
  pub goes_quietly : (s : Receiving) → new ≡ s → GoesOn (Comes (Goes s [] [])) (stands old pass out notes) (stands new pass out notes)
  goes_quietly s is = record {
    made = [];
    replies = [];
    notes = [];
    leads = ap (λ (r : Receiving). Goes r [] []) (sym is);
    calls = calls_none pass;
    sends = sym (append-nil out);
    logs = sym (append-nil notes);
  }

  -- a message is owed
  pub goes_sending : (s : Receiving) (message : Sent) (after : List ℕ) → new ≡ s → after ≡ out ++ records_of (message ∷ [])
      → GoesOn (Comes (Goes s (message ∷ []) [])) (stands old pass out notes) (stands new pass after notes)
  goes_sending s message after is sends = record {
    made = [];
    replies = message ∷ [];
    notes = [];
    leads = ap (λ (r : Receiving). Goes r (message ∷ []) []) (sym is);
    calls = calls_none pass;
    sends = sends;
    logs = sym (append-nil notes);
  }

  -- the request is answered OK: the feed begins
  pub feed_begins : (asked : ClassSpec) (again : Bool) (answer : ClassAnswer) → answer ≡ class_answer.Ok → new ≡ record old { phase = Feeding }
      → GoesOn (Comes (by_answer old asked again answer)) (stands old pass out notes) (stands new pass out notes)
  feed_begins asked again answer ok is =
      subst (λ (a : ClassAnswer). GoesOn (Comes (by_answer old asked again a)) (stands old pass out notes) (stands new pass out notes)) (sym ok)
      (goes_quietly (record old { phase = Feeding }) is)

  -- a class whose patterns all mean something is asked for
  pub asked_again : (class built : ClassSpec) (xid max_hereis : ℕ) (after : List ℕ) → bad_place class.specs.items ≡ None → built ≡ class
      → new ≡ record old { wanting = record old.wanting { class = built }; phase = Asked built true }
      → xid ≡ 2 → max_hereis ≡ old.max_hereis → after ≡ out ++ records_of (sent.Feedme xid class max_hereis ∷ [])
      → GoesOn (Comes (asks_again old class)) (stands old pass out notes) (stands new pass after notes)
  asked_again class built xid max_hereis after none same is number size sends =
      let next : Receiving = record old { wanting = record old.wanting { class = class }; phase = Asked class true } in
      let goes : Step = Goes next (sent.Feedme 2 class old.max_hereis ∷ []) [] in
      let is_next : new ≡ next = is ∙ ap (λ (k : ClassSpec). record old { wanting = record old.wanting { class = k }; phase = Asked k true }) same in
      let message : sent.Feedme xid class max_hereis ≡ sent.Feedme 2 class old.max_hereis =
      ap (λ (n : ℕ). sent.Feedme n class max_hereis) number ∙ ap (λ (n : ℕ). sent.Feedme 2 class n) size in
      subst (λ (step : Step). GoesOn (Comes step) (stands old pass out notes) (stands new pass after notes)) (sym (ap (λ (place : Option ℕ). if is_none place then goes else Bad) none))
      (goes_sending next (sent.Feedme 2 class old.max_hereis) after is_next (sends ∙ ap (λ (m : Sent). out ++ records_of (m ∷ [])) message))
