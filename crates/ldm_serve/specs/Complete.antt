-- How a connection ends where nothing fails and what the peer sends is lawful.
use Rattle.std.specs.Prelude.{◌≡◌, ℕ, ◌<◌, ◌≤◌, Bool, true, false, List, [], ◌∷◌, length, Option, Some, None, if◌then◌else◌}
use Rattle.ldm_class.specs.Access.{reduce}
use Rattle.ldm_class.specs.Rules.{rules_for}
use Rattle.ldm_class.specs.declared.answers.Reduced.{Reduced}
use Rattle.ldm_class.specs.declared.answers.Reduced.TheVariants.{Same, Fewer, Nothing}
use Rattle.ldm_outside.specs.Count.{Rose}
use Rattle.ldm_outside.specs.Session.{SessionRecord}
use Rattle.ldm_rpc.specs.Reading.{is_pending}
use Rattle.ldm_rpc.specs.Streams.{Placed, Position, in_hand, records_in}
use Rattle.ldm_relay.specs.declared.front.TheConstants.{LONGEST_CALL}
use Rattle.ldm_relay.specs.Fits.{Fits}
use Rattle.ldm_relay.specs.Reading.{Call, kind_of}
use Rattle.ldm_relay.specs.Sent.{Sent}
use Rattle.ldm_relay.specs.Spelling.{written}
use Rattle.ldm_shared.specs.Passes.{PassView}
use Rattle.ldm_shared.specs.declared.steps.TheConstants.{MOST_TURNS}
use Rattle.ldm_session.specs.declared.limits.TheConstants.{LONGEST_STREAM}
use Rattle.ldm_sender.specs.declared.end.SendEnd.{SendEnd}
use Rattle.ldm_sender.specs.declared.end.SendEnd.TheVariants as send
use Rattle.ldm_notify.specs.declared.end.NoteEnd.{NoteEnd}
use Rattle.ldm_notify.specs.declared.end.NoteEnd.TheVariants as notified
use Rattle.ldm_intake.specs.declared.end.RecvEnd.{RecvEnd}
use Rattle.ldm_intake.specs.declared.end.RecvEnd.TheVariants as received
use Rattle.ldm_serve.specs.declared.end.ServeEnd.{ServeEnd}
use Rattle.ldm_serve.specs.declared.end.ServeEnd.TheVariants as end
use Rattle.ldm_serve.specs.Client.{Client}
use Rattle.ldm_serve.specs.Respond.{respond, to_call}
use Rattle.ldm_serve.specs.Connection.{ServingMoment}
use Rattle.ldm_serve.specs.Serve.{ServingHasEnded, ServesAll}
use Rattle.ldm_serve.specs.Response.{Response, Says, Puts, Figures, Feeds, Receives, Notifies, Refuses, Denies}
use Rattle.ldm_serve.specs.ServingView.{beginning}

-- the rules leave a part, neither all nor nothing
abbrev pub is_part : Reduced → Bool
is_part Same = false
is_part (Fewer fewer) = true
is_part (Nothing rule) = false

-- Whether the next record is read behind one of that response: it was answered, or a part of the class that it asks for
-- is left to the host.
abbrev pub is_outlived_by : Client → Response → Bool
is_outlived_by client (Says messages) = true
is_outlived_by client (Puts xid info body) = true
is_outlived_by client (Figures xid) = true
is_outlived_by client (Feeds xid class max_hereis) = is_part (reduce (rules_for false client.rules) client.host class)
is_outlived_by client (Receives class messages) = false
is_outlived_by client (Notifies xid class) = is_part (reduce (rules_for false client.rules) client.host class)
is_outlived_by client (Refuses messages) = false
is_outlived_by client (Denies rule messages) = false

-- what is responded to the first of these records behind which none is read, where there is one
abbrev pub last_response : Client → List Placed → Option Response
last_response client [] = None
last_response client (p ∷ others) =
    if is_outlived_by client (respond client p.content) then last_response client others else Some (respond client p.content)

-- a record of that response is not refused
abbrev pub IsTaken : Response → Type 0
IsTaken (Says messages) = Unit {0}
IsTaken (Puts xid info body) = Unit {0}
IsTaken (Figures xid) = Unit {0}
IsTaken (Feeds xid class max_hereis) = Unit {0}
IsTaken (Receives class messages) = Unit {0}
IsTaken (Notifies xid class) = Unit {0}
IsTaken (Refuses messages) = ⊥
IsTaken (Denies rule messages) = Unit {0}

-- Some record makes the connection something else, and is not refused; or there is none such, and no record is begun
-- behind them.
abbrev pub IsLawfulBy : Option Response → Position → Type 0
IsLawfulBy None p = is_pending p.reading ≡ false
IsLawfulBy (Some response) p = IsTaken response

-- What a peer sends on a connection is lawful.
pub record IsLawful (client : Client) (stream : List ℕ) : Type 0 where
  pub few : length stream < LONGEST_STREAM
  pub by : IsLawfulBy (last_response client (records_in beginning stream)) (in_hand beginning stream)

-- No count of faults rose, and the queue can have a call more.
pub record NothingHinders (pass : PassView) (before after : SessionRecord) : Type 0 where
  pub link : ¬ Rose before.link.faults after.link.faults
  pub log : ¬ Rose before.log.faults after.log.faults
  pub few : length pass.seen < MOST_TURNS

-- How a feeding ends of whose class all is left: all cursors were taken; the gate stopped it; or the peer ended the stream
-- where a reply was owed, or sent something else there.
abbrev pub FeedsOn : SendEnd → (before after : SessionRecord) → Type 0
FeedsOn send.Stopped before after = Rose before.gate.stops after.gate.stops
FeedsOn (send.PeerEnd at) before after = Rose before.link.ends after.link.ends
FeedsOn (send.BadReply at) before after = Unit {0}
FeedsOn send.AllBusy before after = Unit {0}
FeedsOn send.Reclassed before after = ⊥
FeedsOn (send.Denied rule) before after = ⊥
FeedsOn send.LinkFault before after = ⊥
FeedsOn send.LogFault before after = ⊥
FeedsOn send.Worn before after = ⊥
FeedsOn send.OutOfMemory before after = ⊥

-- the same of a session of notices, which hears nothing of the peer
abbrev pub NotifiesOn : NoteEnd → (before after : SessionRecord) → Type 0
NotifiesOn notified.Stopped before after = Rose before.gate.stops after.gate.stops
NotifiesOn notified.AllBusy before after = Unit {0}
NotifiesOn notified.Reclassed before after = ⊥
NotifiesOn (notified.Denied rule) before after = ⊥
NotifiesOn notified.LinkFault before after = ⊥
NotifiesOn notified.LogFault before after = ⊥
NotifiesOn notified.Worn before after = ⊥
NotifiesOn notified.OutOfMemory before after = ⊥

-- How a receiving ends: where the peer ended the stream, or by what stands in it.
abbrev pub ReceivesOn : RecvEnd → (before after : SessionRecord) → Type 0
ReceivesOn received.Ended before after = ServingHasEnded before after
ReceivesOn (received.Truncated at) before after = ServingHasEnded before after
ReceivesOn (received.BadFrame at) before after = Unit {0}
ReceivesOn (received.Refused answer) before after = Unit {0}
ReceivesOn received.StreamLimit before after = Unit {0}
ReceivesOn received.LinkFault before after = ⊥
ReceivesOn received.LogFault before after = ⊥
ReceivesOn received.Worn before after = ⊥
ReceivesOn received.OutOfMemory before after = ⊥

-- by what the rules leave of the class that a feeding was asked for
abbrev pub FeedsTo : Reduced → SendEnd → (before after : SessionRecord) → Type 0
FeedsTo Same why before after = FeedsOn why before after
FeedsTo (Nothing rule) why before after = why ≡ send.Denied rule
FeedsTo (Fewer fewer) why before after = ⊥

-- and a session of notices
abbrev pub NotifiesTo : Reduced → NoteEnd → (before after : SessionRecord) → Type 0
NotifiesTo Same why before after = NotifiesOn why before after
NotifiesTo (Nothing rule) why before after = why ≡ notified.Denied rule
NotifiesTo (Fewer fewer) why before after = ⊥

-- The connection became what that response says, and ended so; or it was denied; or the peer ended the stream behind a
-- record.
abbrev pub BecomesBy : Client → Option Response → ServeEnd → (before after : SessionRecord) → Type 0
BecomesBy client None how before after = (how ≡ end.Ended) × ServingHasEnded before after
BecomesBy client (Some (Feeds xid class max_hereis)) how before after =
    (why : SendEnd) × (how ≡ end.Feed why) × FeedsTo (reduce (rules_for false client.rules) client.host class) why before after
BecomesBy client (Some (Notifies xid class)) how before after =
    (why : NoteEnd) × (how ≡ end.Notify why) × NotifiesTo (reduce (rules_for false client.rules) client.host class) why before after
BecomesBy client (Some (Receives class messages)) how before after = (why : RecvEnd) × (how ≡ end.Receive why) × ReceivesOn why before after
BecomesBy client (Some (Denies rule messages)) how before after = how ≡ end.Denied rule
BecomesBy client (Some (Says messages)) how before after = ⊥
BecomesBy client (Some (Puts xid info body)) how before after = ⊥
BecomesBy client (Some (Figures xid)) how before after = ⊥
BecomesBy client (Some (Refuses messages)) how before after = ⊥

-- There was no memory.
abbrev pub LacksMemory : ServeEnd → Type 0
LacksMemory end.OutOfMemory = Unit {0}
LacksMemory (end.Feed why) = why ≡ send.OutOfMemory
LacksMemory (end.Notify why) = why ≡ notified.OutOfMemory
LacksMemory (end.Receive why) = why ≡ received.OutOfMemory
LacksMemory end.Ended = ⊥
LacksMemory (end.Truncated at) = ⊥
LacksMemory (end.BadFrame at) = ⊥
LacksMemory (end.Denied rule) = ⊥
LacksMemory end.LinkFault = ⊥
LacksMemory end.StreamLimit = ⊥
LacksMemory end.Worn = ⊥

-- ---- that there are such

-- A call that is not refused, and is no longer than the longest call.
pub record IsCall (client : Client) (call : Sent) : Type 0 where
  pub fits : Fits call
  pub is_call : kind_of call ≡ Call
  pub short : length (written call) ≤ LONGEST_CALL
  pub taken : IsTaken (to_call client.rules client.host call)

-- A connection that ended so meets the premises of the law.
pub record Meets (how : ServeEnd) (client : Client) (stream : List ℕ) : Type 0 where
  pub old : ServingMoment
  pub new : ServingMoment
  pub serves : ServesAll how client old new
  pub had : old.outside.link.left ≡ Some stream
  pub lawful : IsLawful client stream
  pub none : NothingHinders new.pass old.outside new.outside
