-- Orders that were read, and the calls that they become, as contracts see them.
use Rattle.std.specs.Prelude.{◌≡◌, ℕ, ◌≤◌, List, [], length, replicate, unwrap_or, IsSome}
use Rattle.ldm_types.specs.Info.{Metadata}
use Rattle.ldm_types.specs.declared.limits.TheConstants.{LONGEST_ORIGIN, LONGEST_IDENT}
use Rattle.ldm_model.specs.declared.event.Event.TheVariants as event
use Rattle.ldm_script.specs.declared.body.Body.{Body}
use Rattle.ldm_script.specs.declared.body.Body.TheVariants.{Hex, Fill}
use Rattle.ldm_script.specs.declared.body.TheConstants.{LONGEST_BODY}
use Rattle.ldm_script.specs.declared.line.TheConstants.{LONGEST_LINE}
use Rattle.ldm_answers.specs.declared.answer.TheConstants.{LONGEST_READ}
use Rattle.ldm_script.specs.declared.line.Details.{Details as ReadDetails}
use Rattle.ldm_script.specs.declared.order.Act.{Act}
use Rattle.ldm_script.specs.declared.order.Act.TheVariants as act
use Rattle.ldm_script.specs.declared.order.Order.{Order as ReadOrder}
use Rattle.ldm_script.specs.declared.order.LentAct.{LentAct}
use Rattle.ldm_script.specs.declared.order.LentAct.TheVariants as lent
use Rattle.ldm_script.specs.declared.order.LentOrder.{LentOrder}
use Rattle.ldm_script.specs.Bodies.{digits_of}
use Rattle.ldm_answers.specs.TextReads.{text_of, IsText}
use Rattle.ldm_script.specs.Grammar.{Details}
use Rattle.ldm_script.specs.Order.{Order, Asked, Plain, OnCursor, OnReservation}
use Rattle.ldm_model.specs.declared.event.Event.{Event}
use Rattle.ldm_script.specs.declared.order.Call.{Call}
use Rattle.ldm_script.specs.declared.order.Call.TheVariants as call

-- the bytes of a body
abbrev pub bytes_of : Body → List ℕ
bytes_of (Hex digits) = unwrap_or (digits_of digits.now) []
bytes_of (Fill count byte) = replicate count byte

-- A body that a line can spell: an even number of digits, no more than a line has bytes; or at most so many bytes.
abbrev pub IsBody : Body → Type 0
IsBody (Hex digits) = IsSome (digits_of digits.now) × (length digits.now ≤ LONGEST_LINE)
IsBody (Fill count byte) = count ≤ LONGEST_BODY

-- what was read behind a signature
abbrev pub details_of : ReadDetails → Details
details_of details = record {
  feed = details.feed.0;
  seqno = details.seqno;
  origin = text_of LONGEST_ORIGIN details.origin;
  ident = text_of LONGEST_IDENT details.ident;
}

-- both texts can be spelled
abbrev pub AreTexts : ReadDetails → Type 0
AreTexts details = IsText LONGEST_ORIGIN details.origin × IsText LONGEST_IDENT details.ident

abbrev pub asked_of : Act → Asked
asked_of (act.Insert now info body) = Plain (event.Insert now info (bytes_of body))
asked_of (act.OpenCursor feed start) = Plain (event.OpenCursor feed start)
asked_of (act.Step k) = OnCursor k (λ place. event.Step place)
asked_of (act.Read k offset len) = OnCursor k (λ place. event.Read place offset len)
asked_of (act.Release k) = OnCursor k (λ place. event.Release place)
asked_of (act.Close k) = OnCursor k (λ place. event.Close place)
asked_of (act.Look signature) = Plain (event.Look signature)
asked_of act.Expire = Plain event.Expire
asked_of (act.Tally k) = OnCursor k (λ place. event.Tally place)
asked_of act.Stat = Plain event.Stat
asked_of (act.Reserve info) = Plain (event.Reserve info)
asked_of (act.Fill r body) = OnReservation r (λ place. event.Fill place (bytes_of body))
asked_of (act.Commit r now) = OnReservation r (λ place. event.Commit place now)
asked_of (act.Discard r) = OnReservation r (λ place. event.Discard place)

-- an act whose metadata stood in a place that was lent
abbrev pub act_with : Metadata → LentAct → Act
act_with info (lent.Insert now body) = act.Insert now info body
act_with info (lent.OpenCursor feed start) = act.OpenCursor feed start
act_with info (lent.Step k) = act.Step k
act_with info (lent.Read k offset len) = act.Read k offset len
act_with info (lent.Release k) = act.Release k
act_with info (lent.Close k) = act.Close k
act_with info (lent.Look signature) = act.Look signature
act_with info lent.Expire = act.Expire
act_with info (lent.Tally k) = act.Tally k
act_with info lent.Stat = act.Stat
act_with info lent.Reserve = act.Reserve info
act_with info (lent.Fill r body) = act.Fill r body
act_with info (lent.Commit r now) = act.Commit r now
act_with info (lent.Discard r) = act.Discard r

abbrev pub order_with : Metadata → LentOrder → ReadOrder
order_with info order = record { actor = order.actor; act = act_with info order.act }

abbrev pub order_of : ReadOrder → Order
order_of order = record { actor = order.actor; asked = asked_of order.act }

-- What an order carries can be done as it says: a body was read, and one that is inserted has the size that the metadata
-- tell; and no more bytes are inserted, filled in or to be read than a line can ask for.
abbrev pub IsWhole : Act → Type 0
IsWhole (act.Insert now info body) = IsBody body × (length (bytes_of body) ≡ info.size) × (info.size ≤ LONGEST_BODY)
IsWhole (act.Read k offset len) = len ≤ LONGEST_READ
IsWhole (act.Fill r body) = IsBody body × (length (bytes_of body) ≤ LONGEST_BODY)
IsWhole _ = Unit {0}

-- What a line can ask for: an insertion tells its body's size, which has its limit, and arrives at its own moment; what is
-- filled in has that limit too, and a read its own.
abbrev pub IsWritable : Act → Type 0
IsWritable (act.Insert now info body) = (length (bytes_of body) ≡ info.size) × (info.size ≤ LONGEST_BODY) × (info.arrival ≡ now)
IsWritable (act.Read k offset len) = len ≤ LONGEST_READ
IsWritable (act.Fill r body) = length (bytes_of body) ≤ LONGEST_BODY
IsWritable _ = Unit {0}

-- the event of a call
abbrev pub event_of : Call → Event
event_of (call.Insert now info body) = event.Insert now info.now (bytes_of body.now)
event_of (call.OpenCursor feed start) = event.OpenCursor feed start
event_of (call.Step k) = event.Step k
event_of (call.Read k offset len) = event.Read k offset len
event_of (call.Release k) = event.Release k
event_of (call.Close k) = event.Close k
event_of (call.Look signature) = event.Look signature.now
event_of call.Expire = event.Expire
event_of (call.Tally k) = event.Tally k
event_of call.Stat = event.Stat
event_of (call.Reserve info) = event.Reserve info.now
event_of (call.Fill r body) = event.Fill r (bytes_of body.now)
event_of (call.Commit r now) = event.Commit r now
event_of (call.Discard r) = event.Discard r

-- The call of an act that can be done as it says.
abbrev pub IsWholeCall : Call → Type 0
IsWholeCall (call.Insert now info body) = IsBody body.now × (length (bytes_of body.now) ≡ info.now.size) × (info.now.size ≤ LONGEST_BODY)
IsWholeCall (call.Read k offset len) = len ≤ LONGEST_READ
IsWholeCall (call.Fill r body) = IsBody body.now × (length (bytes_of body.now) ≤ LONGEST_BODY)
IsWholeCall _ = Unit {0}
