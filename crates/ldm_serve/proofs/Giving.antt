-- Responses that are given, by what was done.
use Rattle.std.proofs.Common.{◌≡◌, ℕ, Bool, true, false, List, [], ◌∷◌, ◌++◌, Option, Some, None, Result, Ok, Err, refl, sym, ap, subst}
use Rattle.std.specs.Prelude.{if◌then◌else◌, is_none}
use Rattle.ldm_types.specs.declared.class.ClassSpec.{ClassSpec}
use Rattle.ldm_class.specs.Classes.{bad_place}
use Rattle.ldm_outside.specs.Clock.{ClockRecord}
use Rattle.ldm_model.specs.declared.event.Event.TheVariants.{Stat}
use Rattle.ldm_model.specs.declared.event.Reply.{Reply}
use Rattle.ldm_relay.specs.Sent.{Sent}
use Rattle.ldm_shared.proofs.Made.{calls_none, calls_some}
use Rattle.ldm_shared.specs.Passes.{PassView, IsSamePass, Grows, entry_of}
use Rattle.ldm_intake.specs.Course.{Course, Comes, Leads}
use Rattle.ldm_relay.specs.Spelling.{records_of}
use Rattle.ldm_serve.specs.declared.responded.Responded.{Responded}
use Rattle.ldm_serve.specs.declared.responded.RespondFault.{RespondFault}
use Rattle.ldm_serve.specs.declared.responded.RespondFault.TheVariants as fault
use Rattle.ldm_serve.specs.Answering.{answering, stat_replies}
use Rattle.ldm_serve.specs.Respond.{means_all}
use Rattle.ldm_serve.specs.Response.{Response, Figures}
use Rattle.ldm_serve.specs.Responds.{AsksClock, IsGiven, Responds, Standing, goes_on, stands}

-- A response that is this one asks nothing of clock and queue, and these messages are owed.
pub given_at_once : (pass : PassView) (clock : ClockRecord) (response one : Response) (next : Responded) (messages : List Sent) (out after : List ℕ)
    → response ≡ one → next ≡ goes_on one → answering one 0 ≡ Comes messages → AsksClock one 0 clock clock → after ≡ out ++ records_of messages
    → (next ≡ goes_on response) × IsGiven response (stands pass clock out) (stands pass clock after)
given_at_once pass clock response one next messages out after is goes comes asks sends =
    subst (λ (r : Response). (next ≡ goes_on r) × IsGiven r (stands pass clock out) (stands pass clock after)) (sym is) (
      goes,
      record {
        now = 0;
        made = [];
        messages = messages;
        asks_clock = asks;
        leads = subst (λ (c : Course (List Sent)). Leads pass.actor c [] messages) (sym comes) refl;
        calls = calls_none pass;
        sends = sends;
      },
    )

module _ (class : ClassSpec) (one other : Response) where
  -- each pattern of the class means something, or one does not
  pub all_mean : bad_place class.specs.items ≡ None → (if means_all class then one else other) ≡ one
  all_mean none = ap (λ (place : Option ℕ). if is_none place then one else other) none

  pub one_means_nothing : (at : ℕ) → bad_place class.specs.items ≡ Some at → (if means_all class then one else other) ≡ other
  one_means_nothing at bad = ap (λ (place : Option ℕ). if is_none place then one else other) bad

-- a choice by a test that failed
pub not_chosen : (test : Bool) (one other : Response) → test ≡ false → (if test then one else other) ≡ other
not_chosen false one other is = refl
not_chosen true one other is = absurd (cc is)

-- the queue answered its figures
pub figures_given : (pass behind : PassView) (clock : ClockRecord) (xid : ℕ) (reply : Reply) (messages : List Sent) (out after : List ℕ)
    → Grows pass behind Stat reply → stat_replies xid reply ≡ messages → after ≡ out ++ records_of messages
    → IsGiven (Figures xid) (stands pass clock out) (stands behind clock after)
figures_given pass behind clock xid reply messages out after grows says sends = record {
  now = 0;
  made = entry_of pass Stat reply ∷ [];
  messages = messages;
  asks_clock = refl;
  leads = (refl, says);
  calls = calls_some pass behind (entry_of pass Stat reply ∷ []) grows.makes;
  sends = sends;
}

-- whatever it comes to, the pass is the same one
pub keeps_pass : (result : Result Responded RespondFault) (response : Response) (old new : Standing) → Responds result response old new → IsSamePass old.pass new.pass
keeps_pass (Ok next) response old new done = done.1.calls.same
keeps_pass (Err fault.Worn) response old new done = done.calls.same
keeps_pass (Err fault.OutOfMemory) response old new same = subst (λ (s : Standing). IsSamePass old.pass s.pass) (sym same) refl
