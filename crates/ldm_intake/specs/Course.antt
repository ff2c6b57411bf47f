-- Courses: what is asked of the queue, one event after another, where each may depend on what the one before was answered.
use Rattle.std.specs.Prelude.{◌≡◌, ℕ, List, [], ◌∷◌}
use Rattle.ldm_model.specs.declared.event.Event.{Event}
use Rattle.ldm_model.specs.declared.event.Reply.{Reply}
use Rattle.ldm_model.specs.declared.event.Entry.{Entry}

-- It comes to something, or it asks the queue for an event and goes on by the reply.
pub data Course (X : Type 0) : Type 0 where
  Comes : (to : X) → Course X
  Asks : (event : Event) → (on : Reply → Course X) → Course X

-- a course, and behind it the one that begins with what it came to
abbrev pub then : {X Y : Type 0} → Course X → (X → Course Y) → Course Y
then (Comes x) rest = rest x
then (Asks event on) rest = Asks event (λ reply. then (on reply) rest)

-- the entry of an actor's event, with a reply
abbrev pub entry_by : ℕ → Event → Reply → Entry
entry_by actor event reply = record { actor = actor; event = event; reply = reply }

-- These entries of an actor are just what the course asks, and with their replies it comes to x.
abbrev pub Leads : {X : Type 0} → ℕ → Course X → List Entry → X → Type 0
Leads actor (Comes to) [] x = to ≡ x
Leads actor (Comes to) (entry ∷ entries) x = ⊥
Leads actor (Asks event on) [] x = ⊥
Leads actor (Asks event on) (entry ∷ entries) x = (entry ≡ entry_by actor event entry.reply) × Leads actor (on entry.reply) entries x

-- These entries of an actor are the first that the course asks, perhaps not all.
abbrev pub Begins : {X : Type 0} → ℕ → Course X → List Entry → Type 0
Begins actor (Comes to) [] = Unit {0}
Begins actor (Comes to) (entry ∷ entries) = ⊥
Begins actor (Asks event on) [] = Unit {0}
Begins actor (Asks event on) (entry ∷ entries) = (entry ≡ entry_by actor event entry.reply) × Begins actor (on entry.reply) entries
