-- How a connection goes on behind a record that says so: it becomes a feeding, a notifying or a receiving; or it is over; or a part of the
-- class that was asked for is left to the host, and the next record is read.
use Rattle.std.specs.Prelude.{◌≡◌, ℕ, false, List, [], ◌∷◌, Option, Some, None}
use Rattle.ldm_types.specs.declared.class.ClassSpec.{ClassSpec}
use Rattle.ldm_class.specs.Access.{reduce}
use Rattle.ldm_class.specs.Rules.{rules_for}
use Rattle.ldm_class.specs.declared.answers.Reduced.TheVariants.{Fewer}
use Rattle.ldm_outside.specs.Session.{SessionRecord, no_gate}
use Rattle.ldm_relay.specs.Sent.{Sent}
use Rattle.ldm_relay.specs.Sent as sent
use Rattle.ldm_relay.specs.declared.message.ClassAnswer.TheVariants as class_answer
use Rattle.ldm_shared.specs.Passes.{Calls}
use Rattle.ldm_session.specs.Exchange.{Exchanged, AnsweredAll}
use Rattle.ldm_sender.specs.declared.end.SendEnd.{SendEnd}
use Rattle.ldm_sender.specs.declared.end.SendEnd.TheVariants as send
use Rattle.ldm_sender.specs.Asked.{asked_of}
use Rattle.ldm_upstream.specs.Feeds.{Feeds}
use Rattle.ldm_notify.specs.declared.end.NoteEnd.{NoteEnd}
use Rattle.ldm_notify.specs.declared.end.NoteEnd.TheVariants as notified
use Rattle.ldm_notify.specs.Notifying as notifying
use Rattle.ldm_notify.specs.Notifies.{Notifies}
use Rattle.ldm_intake.specs.declared.end.RecvEnd.{RecvEnd}
use Rattle.ldm_intake.specs.Opening.{accepting}
use Rattle.ldm_relay.specs.Spelling.{records_of}
use Rattle.ldm_downstream.specs.Receives.{ReceivesAll}
use Rattle.ldm_serve.specs.declared.responded.Responded.{Responded}
use Rattle.ldm_serve.specs.declared.responded.Responded.TheVariants as responded
use Rattle.ldm_serve.specs.declared.end.ServeEnd.{ServeEnd}
use Rattle.ldm_serve.specs.declared.end.ServeEnd.TheVariants as end
use Rattle.ldm_serve.specs.Client.{Client}
use Rattle.ldm_serve.specs.Connection.{ServingMoment}

-- the outside of a session that asks no gate
abbrev pub ungated : SessionRecord → SessionRecord
ungated outside = record { link = outside.link; log = outside.log; clock = outside.clock; gate = no_gate }

-- from now on a feeding, with the bytes behind the request ahead of those that the link gives; it ended so
abbrev pub IsFed : SendEnd → Responded → Client → List ℕ → (old new : ServingMoment) → Type 0
IsFed why (responded.Feeds ask) client ahead old new =
    Feeds why (asked_of client.host client.rules ask) ahead old.pass new.pass old.outside new.outside × (why ≡ send.Reclassed → ⊥)
IsFed why _ client ahead old new = ⊥

-- from now on a notifying, which hears nothing of the peer
abbrev pub IsNotified : NoteEnd → Responded → Client → (old new : ServingMoment) → Type 0
IsNotified why (responded.Notifies ask) client old new =
    Notifies why (notifying.asked_of client.host client.rules ask) old.pass new.pass old.outside new.outside × (why ≡ notified.Reclassed → ⊥)
IsNotified why _ client old new = ⊥

-- from now on a receiving of those products that the rules let the host push, whose stream begins with the bytes behind the offer
abbrev pub IsReceived : RecvEnd → Responded → Client → List ℕ → (old new : ServingMoment) → Type 0
IsReceived why (responded.Receives class) client ahead old new =
    ((last : Option (List ℕ)) × ReceivesAll why last (accepting class client.rules client.host) ahead old.pass new.pass (ungated old.outside) (ungated new.outside))
    × (new.outside.gate ≡ old.outside.gate)
IsReceived why _ client ahead old new = ⊥

-- the record is refused, and nothing else is done
abbrev pub IsRefused : ℕ → Responded → ℕ → (old new : ServingMoment) → Type 0
IsRefused place responded.Refused at old new = (place ≡ at) × (new ≡ old)
IsRefused place _ at old new = ⊥

-- nothing of what it offers is accepted, and nothing else is done
abbrev pub IsDenied : ℕ → Responded → (old new : ServingMoment) → Type 0
IsDenied rule (responded.Denied first) old new = (rule ≡ first) × (new ≡ old)
IsDenied rule _ old new = ⊥

-- How a connection ends by a record that begins there and goes on so, with these bytes behind it.
abbrev pub Becomes : ServeEnd → Responded → ℕ → Client → List ℕ → (old new : ServingMoment) → Type 0
Becomes (end.Feed why) next at client ahead old new = IsFed why next client ahead old new
Becomes (end.Notify why) next at client ahead old new = IsNotified why next client old new
Becomes (end.Receive why) next at client ahead old new = IsReceived why next client ahead old new
Becomes (end.BadFrame place) next at client ahead old new = IsRefused place next at old new
Becomes (end.Denied rule) next at client ahead old new = IsDenied rule next old new
Becomes end.Ended next at client ahead old new = ⊥
Becomes (end.Truncated at') next at client ahead old new = ⊥
Becomes end.LinkFault next at client ahead old new = ⊥
Becomes end.StreamLimit next at client ahead old new = ⊥
Becomes end.Worn next at client ahead old new = ⊥
Becomes end.OutOfMemory next at client ahead old new = ⊥

-- A part of a class is left to the host: it was told that part, and then the clock was asked. Nothing else was done.
pub record Narrows (client : Client) (class : ClassSpec) (told : ClassSpec → List Sent) (old new : ServingMoment) : Type 0 where
  pub fewer : ClassSpec
  pub part : reduce (rules_for false client.rules) client.host class ≡ Fewer fewer
  pub at : ℕ
  pub calls : Calls old.pass new.pass []
  pub exchanged : Exchanged old.outside.link (records_of (told fewer)) [] new.outside.link
  pub clock : AnsweredAll (at ∷ []) old.outside.clock new.outside.clock
  pub log : new.outside.log.written ≡ old.outside.log.written
  pub gate : new.outside.gate ≡ old.outside.gate

abbrev pub NarrowsBy : Responded → Client → (old new : ServingMoment) → Type 0
NarrowsBy (responded.Feeds ask) client old new =
    Narrows client ask.class (λ fewer. sent.FeedmeReply ask.xid (class_answer.Reclass fewer) ∷ []) old new
NarrowsBy (responded.Notifies ask) client old new =
    Narrows client ask.class (λ fewer. sent.NotifymeReply ask.xid (class_answer.Reclass fewer) ∷ []) old new
NarrowsBy _ client old new = ⊥

-- how a connection goes on behind that record: to that end, or by reading the next record
abbrev pub Goes : Option ServeEnd → Responded → ℕ → Client → List ℕ → (old new : ServingMoment) → Type 0
Goes (Some end) next at client ahead old new = Becomes end next at client ahead old new
Goes None next at client ahead old new = NarrowsBy next client old new
