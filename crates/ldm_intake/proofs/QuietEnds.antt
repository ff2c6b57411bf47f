-- A record that is refused, or that declines, asks nothing of the queue.
use Rattle.std.proofs.Common.{◌≡◌, ℕ, ◌==◌, Bool, true, false, nat_le, ◌&&◌, List, [], ◌∷◌, length, Option, Some, None, Result, Ok, refl}
use Rattle.std.specs.Prelude.{if◌then◌else◌, is_none}
use Rattle.ldm_types.specs.Info.{Metadata}
use Rattle.ldm_types.specs.declared.class.ClassSpec.{ClassSpec}
use Rattle.ldm_model.specs.declared.event.Reply.{Reply}
use Rattle.ldm_model.specs.declared.event.Reply.TheVariants as reply
use Rattle.ldm_model.specs.declared.event.Entry.{Entry}
use Rattle.ldm_relay.specs.declared.fault.RelayFault.{RelayFault}
use Rattle.ldm_relay.specs.declared.message.ClassAnswer.{ClassAnswer}
use Rattle.ldm_relay.specs.declared.message.TheConstants.{LARGEST_BLOCK}
use Rattle.ldm_relay.specs.declared.procedure.Procedure.TheVariants as procedure
use Rattle.ldm_relay.specs.Procedure.{number_of}
use Rattle.ldm_relay.specs.Reading.{call_of, reply_of}
use Rattle.ldm_relay.specs.Sent.{Sent}
use Rattle.ldm_relay.specs.Sent as sent
use Rattle.ldm_intake.specs.declared.phase.Phase.{Phase}
use Rattle.ldm_intake.specs.declared.phase.Phase.TheVariants.{Asked, Feeding}
use Rattle.ldm_intake.specs.declared.phase.Pending.{Pending}
use Rattle.ldm_intake.specs.Course.{Course, Comes, Asks, Leads}
use Rattle.ldm_intake.specs.Receiving.{Receiving, is_wanted, left_of}
use Rattle.ldm_intake.specs.Step.{Step, Goes, Bad, Declined}
use Rattle.ldm_intake.specs.Products.{hereis_wanted, reserved, comingsoon_wanted, is_next, filled_in, fills, blkdata_of}
use Rattle.ldm_intake.specs.Record.{reply_course, call_course, course_in, record_course}

abbrev IsGoing : Step → Type 0
IsGoing (Goes s replies notes) = Unit {0}
IsGoing Bad = ⊥
IsGoing (Declined answer) = ⊥

-- whatever the queue answers, the receiving goes on
abbrev OnlyGoes : Course Step → Type 0
OnlyGoes (Comes step) = IsGoing step
OnlyGoes (Asks event on) = (reply : Reply) → OnlyGoes (on reply)

-- where something is asked of the queue, the receiving goes on
abbrev IsQuiet : Course Step → Type 0
IsQuiet (Comes step) = Unit {0}
IsQuiet (Asks event on) = (reply : Reply) → OnlyGoes (on reply)

going-bad : (step : Step) → IsGoing step → step ≡ Bad → ⊥
going-bad (Goes s replies notes) going is = absurd cc
going-bad Bad going is = going
going-bad (Declined answer) going is = going

going-declined : (step : Step) (answer : ClassAnswer) → IsGoing step → step ≡ Declined answer → ⊥
going-declined (Goes s replies notes) answer going is = absurd cc
going-declined Bad answer going is = going
going-declined (Declined other) answer going is = going

goes-bad : (actor : ℕ) (c : Course Step) (made : List Entry) → OnlyGoes c → Leads actor c made Bad → ⊥
goes-bad actor (Comes step) [] goes leads = going-bad step goes leads
goes-bad actor (Comes step) (entry ∷ made) goes leads = leads
goes-bad actor (Asks event on) [] goes leads = leads
goes-bad actor (Asks event on) (entry ∷ made) goes leads = goes-bad actor (on entry.reply) made (goes entry.reply) leads.1

goes-declined : (actor : ℕ) (c : Course Step) (made : List Entry) (answer : ClassAnswer) → OnlyGoes c → Leads actor c made (Declined answer) → ⊥
goes-declined actor (Comes step) [] answer goes leads = going-declined step answer goes leads
goes-declined actor (Comes step) (entry ∷ made) answer goes leads = leads
goes-declined actor (Asks event on) [] answer goes leads = leads
goes-declined actor (Asks event on) (entry ∷ made) answer goes leads = goes-declined actor (on entry.reply) made answer (goes entry.reply) leads.1

quiet-bad : (actor : ℕ) (c : Course Step) (made : List Entry) → IsQuiet c → Leads actor c made Bad → made ≡ []
quiet-bad actor (Comes step) [] quiet leads = refl
quiet-bad actor (Comes step) (entry ∷ made) quiet leads = absurd leads
quiet-bad actor (Asks event on) [] quiet leads = refl
quiet-bad actor (Asks event on) (entry ∷ made) quiet leads = absurd (goes-bad actor (on entry.reply) made (quiet entry.reply) leads.1)

quiet-declined : (actor : ℕ) (c : Course Step) (made : List Entry) (answer : ClassAnswer) → IsQuiet c → Leads actor c made (Declined answer) → made ≡ []
quiet-declined actor (Comes step) [] answer quiet leads = refl
quiet-declined actor (Comes step) (entry ∷ made) answer quiet leads = absurd leads
quiet-declined actor (Asks event on) [] answer quiet leads = refl
quiet-declined actor (Asks event on) (entry ∷ made) answer quiet leads = absurd (goes-declined actor (on entry.reply) made answer (quiet entry.reply) leads.1)

goes_if : (b : Bool) (c d : Course Step) → OnlyGoes c → OnlyGoes d → OnlyGoes (if b then c else d)
goes_if true c d goes other = goes
goes_if false c d goes other = other

quiet_if : (b : Bool) (c d : Course Step) → IsQuiet c → IsQuiet d → IsQuiet (if b then c else d)
quiet_if true c d quiet other = quiet
quiet_if false c d quiet other = other

quiet_reserved : (s : Receiving) (now xid : ℕ) (info : Metadata) (r : Reply) → OnlyGoes (reserved s now xid info r)
quiet_reserved s now xid info (reply.Reserved r evicted) =
    goes_if (info.size == 0) _ _ (λ answer. tt) tt
quiet_reserved s now xid info (reply.Duplicate n) = tt
quiet_reserved s now xid info _ = tt

quiet_filled : (s : Receiving) (now : ℕ) (pending : Pending) (len : ℕ) → OnlyGoes (filled_in s now pending len)
quiet_filled s now pending len = goes_if (nat_le (left_of pending) len) _ _ (λ answer. tt) tt

quiet_blkdata : (s : Receiving) (now : ℕ) (signature : List ℕ) (number : ℕ) (block : List ℕ) (pending : Option Pending) → IsQuiet (blkdata_of s now signature number block pending)
quiet_blkdata s now signature number block None = tt
quiet_blkdata s now signature number block (Some pending) =
    quiet_if (is_next pending signature number block) (fills s now pending block) (Comes Bad) (λ answer. quiet_filled s now pending (length block)) tt

quiet_call : (s : Receiving) (now : ℕ) (message : Result Sent RelayFault) → IsQuiet (call_course s now message)
quiet_call s now (Ok (sent.Hereis xid info body)) =
    quiet_if (is_none s.pending) _ _ (quiet_if (is_wanted s.wanting info) (hereis_wanted s now info body) _ (λ answer. tt) tt) tt
quiet_call s now (Ok (sent.Comingsoon xid info block_size)) =
    quiet_if (is_none s.pending && (block_size == LARGEST_BLOCK)) _ _
    (quiet_if (is_wanted s.wanting info) (comingsoon_wanted s now xid info) _ (quiet_reserved s now xid info) tt) tt
quiet_call s now (Ok (sent.Blkdata xid signature number block)) = quiet_blkdata s now signature number block s.pending
quiet_call s now (Ok (sent.Isalive xid)) = tt
quiet_call s now _ = tt

quiet_reply : (s : Receiving) (class : ClassSpec) (again : Bool) (message : Result Sent RelayFault) → IsQuiet (reply_course s class again message)
quiet_reply s class again (Ok (sent.FeedmeReply xid answer)) = tt
quiet_reply s class again _ = tt

quiet_in : (phase : Phase) (s : Receiving) (now : ℕ) (content : List ℕ) → IsQuiet (course_in phase s now content)
quiet_in (Asked class again) s now content = quiet_reply s class again (reply_of (number_of procedure.Feedme) content)
quiet_in Feeding s now content = quiet_call s now (call_of content)

pub bad_is_quiet : (actor : ℕ) (s : Receiving) (now : ℕ) (content : List ℕ) (made : List Entry) → Leads actor (record_course s now content) made Bad → made ≡ []
bad_is_quiet actor s now content made leads = quiet-bad actor (record_course s now content) made (quiet_in s.phase s now content) leads

pub declined_is_quiet : (actor : ℕ) (s : Receiving) (now : ℕ) (content : List ℕ) (made : List Entry) (answer : ClassAnswer)
    → Leads actor (record_course s now content) made (Declined answer) → made ≡ []
declined_is_quiet actor s now content made answer leads = quiet-declined actor (record_course s now content) made answer (quiet_in s.phase s now content) leads
