-- How a request is answered, and the cursor that is opened for it.
use Rattle.std.specs.Prelude.{◌≡◌, ℕ, zero, suc, Bool, true, false, List, [], ◌∷◌, Option, Some, None, IsSome, fold}
use Rattle.std.specs.Prelude.{map, bit_or}
use Rattle.ldm_types.specs.declared.class.ClassSpec.{ClassSpec}
use Rattle.ldm_types.specs.declared.class.Spec.{Spec}
use Rattle.ldm_model.specs.declared.event.Start.{Start}
use Rattle.ldm_model.specs.declared.event.Start.TheVariants as start
use Rattle.ldm_model.specs.declared.event.Event.TheVariants.{OpenCursor, Close}
use Rattle.ldm_model.specs.declared.event.Reply.{Reply}
use Rattle.ldm_model.specs.declared.event.Reply.TheVariants as reply
use Rattle.ldm_model.specs.declared.event.Entry.{Entry}
use Rattle.ldm_class.specs.declared.answers.Reduced.TheVariants as reduced
use Rattle.ldm_class.specs.Access.{reduce}
use Rattle.ldm_class.specs.Classes.{resumed}
use Rattle.ldm_relay.specs.declared.message.ClassAnswer.{ClassAnswer}
use Rattle.ldm_relay.specs.declared.message.ClassAnswer.TheVariants as class_answer
use Rattle.ldm_sender.specs.Asked.{Asked}

-- How a request was answered.
pub data Answered : Type 0 where
  -- nothing of the class is left to the host
  Denied : (rule : ℕ) → Answered
  -- a part of it is left
  Reclassed : (class : ClassSpec) → Answered
  -- All cursors were taken. `missed`: the product that the class names to go on behind was not queued.
  Busy : (missed : Bool) → Answered
  -- the cursor has that place
  Opened : (missed : Bool) → (k : ℕ) → Answered

-- what the peer is told
abbrev pub class_answer_of : Answered → ClassAnswer
class_answer_of (Denied rule) = class_answer.Denied
class_answer_of (Reclassed class) = class_answer.Reclass class
class_answer_of (Busy missed) = class_answer.Busy
class_answer_of (Opened missed k) = class_answer.Ok

-- only a product that is named is missed
abbrev pub MayMiss : Asked → Bool → Type 0
MayMiss asked true = IsSome (resumed asked.class.specs.items)
MayMiss asked false = Unit {0}

-- the rules say so
abbrev pub IsAnswerTo : Asked → Answered → Type 0
IsAnswerTo asked (Denied rule) = reduce asked.rules asked.host asked.class ≡ reduced.Nothing rule
IsAnswerTo asked (Reclassed class) = reduce asked.rules asked.host asked.class ≡ reduced.Fewer class
IsAnswerTo asked (Busy missed) = (reduce asked.rules asked.host asked.class ≡ reduced.Same) × MayMiss asked missed
IsAnswerTo asked (Opened missed k) = (reduce asked.rules asked.host asked.class ≡ reduced.Same) × MayMiss asked missed

-- the feedtypes of all specifications, as one set
abbrev pub feeds_of : ClassSpec → ℕ
feeds_of class = fold bit_or 0 (map (λ (spec : Spec). spec.feed.0) class.specs.items)

-- the first product that was inserted no earlier than that
abbrev pub from_instant : ℕ → Start
from_instant zero = start.Oldest
from_instant (suc n) = start.After n

-- a call that opens a cursor for the class, and its answer
abbrev pub opens : ℕ → Asked → Start → Reply → Entry
opens actor asked from answer =
    record { actor = actor; event = OpenCursor (record { 0 = feeds_of asked.class }) from; reply = answer }

-- The calls that open the cursor: behind the product that the class names, where it names one and that is queued; else
-- from the
-- instant that it asks for. The last one has that answer.
abbrev pub opening_calls : ℕ → Asked → Option (List ℕ) → Bool → Reply → List Entry
opening_calls actor asked None missed answer = opens actor asked (from_instant asked.class.from) answer ∷ []
opening_calls actor asked (Some signature) false answer =
    opens actor asked (start.AfterSignature (record { 0 = signature })) answer ∷ []
opening_calls actor asked (Some signature) true answer =
    opens actor asked (start.AfterSignature (record { 0 = signature })) reply.NotQueued
    ∷ opens actor asked (from_instant asked.class.from) answer ∷ []

-- what is called before the request is answered
abbrev pub opening_entries : ℕ → Asked → Answered → List Entry
opening_entries actor asked (Denied rule) = []
opening_entries actor asked (Reclassed class) = []
opening_entries actor asked (Busy missed) =
    opening_calls actor asked (resumed asked.class.specs.items) missed reply.AllBusy
opening_entries actor asked (Opened missed k) =
    opening_calls actor asked (resumed asked.class.specs.items) missed (reply.Opened k)

-- the call that closes the cursor, where one was opened
abbrev pub closing_entries : ℕ → Answered → List Entry
closing_entries actor (Opened missed k) = record { actor = actor; event = Close k; reply = reply.Closed } ∷ []
closing_entries actor _ = []

-- the place of the cursor; where none was opened, no turn follows that would ask for it
abbrev pub place_of : Answered → ℕ
place_of (Opened missed k) = k
place_of _ = 0
