-- One call of the queue within a record, and then what its reply leads to.
use Rattle.std.proofs.Common.{◌≡◌, ℕ, Bool, true, false, List, [], ◌∷◌, ◌++◌, refl, sym, ap, subst, inl, inr, append-nil}
use Rattle.std.specs.Prelude.{if◌then◌else◌, not}
use Rattle.ldm_model.specs.declared.event.Event.{Event}
use Rattle.ldm_model.specs.declared.event.Reply.{Reply}
use Rattle.ldm_model.specs.declared.event.Entry.{Entry}
use Rattle.ldm_relay.specs.Sent.{Sent}
use Rattle.ldm_shared.specs.Own.{own}
use Rattle.ldm_shared.specs.Passes.{PassView, IsSamePass, Makes, Calls, Grows, entry_of}
use Rattle.ldm_shared.specs.declared.turn.Turn.{Turn}
use Rattle.ldm_shared.specs.declared.turn.Turn.TheVariants.{Done, Worn}
use Rattle.ldm_intake.specs.declared.record_end.MessageEnd.TheVariants as message_end
use Rattle.ldm_intake.specs.Course.{Course, Comes, Asks, Leads, Begins}
use Rattle.ldm_intake.specs.Notes.{Note, note_lines}
use Rattle.ldm_intake.specs.Receiving.{Receiving}
use Rattle.ldm_relay.specs.Spelling.{records_of}
use Rattle.ldm_intake.specs.Step.{Step, Goes}
use Rattle.ldm_intake.specs.TakesRecord.{Standing, TakesRecord, stands}
use Rattle.ldm_intake.specs.Turning.{end_of_turn}

-- calls in a row
abbrev pub InARow : Type 0
InARow = (first second third : PassView) (made more : List Entry) → Calls first second made → Calls second third more → Calls first third (made ++ more)

made_calls : {old new : PassView} {made : List Entry} → Makes old new made → Calls old new made
made_calls makes = record { same = makes.same; adds = makes.adds; has_seen = inr makes.has_seen }

same_actor : (old new : PassView) → IsSamePass old new → new.actor ≡ old.actor
same_actor old new same = ap (λ (p : PassView). p.actor) same

-- no call was made
pub calls_none : (pass : PassView) → Calls pass pass []
calls_none pass = record { same = refl; adds = record { begins = ([], append-nil pass.seen); own = sym (append-nil (own pass.actor pass.seen)) }; has_seen = inl refl }

module _ (event : Event) (on : Reply → Course Step) (old : Standing) where
  -- a call, and then the course that its reply leads to
  pub takes_after : InARow → (reply : Reply) (pass : PassView) (turn : Turn (Unit {0})) (new : Standing) → Grows old.pass pass event reply
      → TakesRecord (end_of_turn turn) (on reply) (record old { pass = pass }) new → TakesRecord (end_of_turn turn) (Asks event on) old new
  takes_after row reply pass (Done u) new grows takes = record {
    made = entry_of old.pass event reply ∷ takes.made;
    replies = takes.replies;
    notes = takes.notes;
    leads = (refl, subst (λ (actor : ℕ). Leads actor (on reply) takes.made (Goes new.receiving takes.replies takes.notes)) (same_actor old.pass pass grows.makes.same) takes.leads);
    calls = row old.pass pass new.pass (entry_of old.pass event reply ∷ []) takes.made (made_calls grows.makes) takes.calls;
    sends = takes.sends;
    logs = takes.logs;
  }
  takes_after row reply pass (Worn turns) new grows takes = record {
    made = entry_of old.pass event reply ∷ takes.made;
    begins = (refl, subst (λ (actor : ℕ). Begins actor (on reply) takes.made) (same_actor old.pass pass grows.makes.same) takes.begins);
    calls = row old.pass pass new.pass (entry_of old.pass event reply ∷ []) takes.made (made_calls grows.makes) takes.calls;
    worn = takes.worn;
    same = takes.same;
  }

module _ (old new s : Receiving) (replies : List Sent) (notes : List Note) (out after log told : List ℕ)
    (is : new ≡ s) (sends : after ≡ out ++ records_of replies) (logs : told ≡ log ++ note_lines notes) where
  -- one call is all, and the receiving goes on
  pub goes_by_one : (event : Event) (on : Reply → Course Step) (reply : Reply) (pass behind : PassView) → Grows pass behind event reply
      → on reply ≡ Comes (Goes s replies notes) → TakesRecord message_end.Goes (Asks event on) (stands old pass out log) (stands new behind after told)
  goes_by_one event on reply pass behind grows comes = record {
    made = entry_of pass event reply ∷ [];
    replies = replies;
    notes = notes;
    leads = (refl, subst (λ (course : Course Step). Leads pass.actor course [] (Goes new replies notes)) (sym comes) (ap (λ (r : Receiving). Goes r replies notes) (sym is)));
    calls = made_calls grows.makes;
    sends = sends;
    logs = logs;
  }

  -- no call, and the receiving goes on
  pub goes_by_none : (course : Course Step) (pass : PassView) → course ≡ Comes (Goes s replies notes)
      → TakesRecord message_end.Goes course (stands old pass out log) (stands new pass after told)
  goes_by_none course pass comes = record {
    made = [];
    replies = replies;
    notes = notes;
    leads = subst (λ (c : Course Step). Leads pass.actor c [] (Goes new replies notes)) (sym comes) (ap (λ (r : Receiving). Goes r replies notes) (sym is));
    calls = calls_none pass;
    sends = sends;
    logs = logs;
  }

-- a course that is chosen by two tests
pub second_of : {X : Type 0} (first second : Bool) (a b c : X) → first ≡ true → second ≡ false → (if first then (if second then a else b) else c) ≡ b
second_of true false a b c is not = refl
second_of true true a b c is not = absurd (cc not)
second_of false second a b c is not = absurd (cc is)
