-- What the rules keep from a host on a whole connection: what it may hand in, what it may ask, and what it may be told.
use Rattle.std.specs.Prelude.{◌≡◌, ℕ, true, List, [], ◌∷◌, ◌++◌, Option, Some, None}
use Rattle.std.specs.List.{Contains, list_any}
use Rattle.ldm_types.specs.Info.{Metadata}
use Rattle.ldm_class.specs.Access.{is_about, is_yes, verdict}
use Rattle.ldm_model.specs.declared.event.Event.{Event}
use Rattle.ldm_model.specs.declared.event.Event.TheVariants.{OpenCursor, Step, Read, Release, Close, Insert, Look, Expire, Tally, Stat, Reserve, Fill, Commit, Discard}
use Rattle.ldm_model.specs.declared.event.Reply.TheVariants.{Reserved}
use Rattle.ldm_model.specs.declared.event.Entry.{Entry}
use Rattle.ldm_outside.specs.Link.{LinkRecord}
use Rattle.ldm_relay.specs.Sent.{Sent}
use Rattle.ldm_relay.specs.Sent as sent
use Rattle.ldm_model.specs.declared.stat.Stat as figures
use Rattle.ldm_session.specs.Exchange.{Exchanged}
use Rattle.ldm_intake.specs.Course.{entry_by}
use Rattle.ldm_relay.specs.Spelling.{records_of}
use Rattle.ldm_serve.specs.Client.{Client}

-- ---- what a host hands in, and asks

-- the ACCEPT rules let the host hand in the product
abbrev pub MayHandIn : Client → Metadata → Type 0
MayHandIn client info = is_yes (verdict client.rules.accept client.host info) ≡ true

-- One of these calls reserved that region, for a product that the host may hand in.
pub record WasReserved (client : Client) (calls : List Entry) (r : ℕ) : Type 0 where
  pub info : Metadata
  pub evicted : ℕ
  pub made : Contains calls (entry_by client.actor (Reserve info) (Reserved r evicted))
  pub may : MayHandIn client info

-- an ALLOW rule is about the host: it may ask for the figures of the queue
abbrev pub MayAsk : Client → Type 0
MayAsk client = list_any (is_about client.host) client.rules.allow ≡ true

-- What a call may be that is made behind these. It puts nothing into the queue but a product that the host may hand in: at once, or by a
-- region that is reserved for it and becomes that product. It asks for the figures only for a host that may ask for them.
abbrev pub PutsIn : Client → (before : List Entry) → Event → Type 0
PutsIn client before (Insert now info body) = MayHandIn client info
PutsIn client before (Reserve info) = MayHandIn client info
PutsIn client before (Commit r now) = WasReserved client before r
PutsIn client before Stat = MayAsk client
-- nothing is put in by these; others are not made
PutsIn client before (OpenCursor feed from) = Unit {0}
PutsIn client before (Step k) = Unit {0}
PutsIn client before (Read k offset count) = Unit {0}
PutsIn client before (Release k) = Unit {0}
PutsIn client before (Close k) = Unit {0}
PutsIn client before (Fill r bytes) = Unit {0}
PutsIn client before (Discard r) = Unit {0}
PutsIn client before (Look signature) = ⊥
PutsIn client before Expire = ⊥
PutsIn client before (Tally k) = ⊥

-- each of these calls, one behind the other
abbrev pub AllPutIn : Client → (before calls : List Entry) → Type 0
AllPutIn client before [] = Unit {0}
AllPutIn client before (call ∷ calls) = PutsIn client before call.event × AllPutIn client (before ++ call ∷ []) calls

-- ---- what a host is told

-- the ALLOW rules let the host have the product
abbrev pub MayHave : Client → Metadata → Type 0
MayHave client info = is_yes (verdict client.rules.allow client.host info) ≡ true

-- One of these messages announced a product with that signature, which the host may have.
pub record WasAnnounced (client : Client) (messages : List Sent) (signature : List ℕ) : Type 0 where
  pub xid : ℕ
  pub info : Metadata
  pub block_size : ℕ
  pub announced : Contains messages (sent.Comingsoon xid info block_size)
  pub same : info.signature ≡ signature
  pub may : MayHave client info

-- figures, where they are told
abbrev pub TellsFigures : Client → Option figures.Stat → Type 0
TellsFigures client None = Unit {0}
TellsFigures client (Some stat) = MayAsk client

-- A message that goes out behind these has nothing of a product but of one that the host may have: it is whole, it is announced, it is
-- told of, or it is a block of one that was announced. It has the figures of the queue only for a host that may ask for them. Each message
-- that may go is named.
abbrev pub Tells : Client → (before : List Sent) → Sent → Type 0
Tells client before (sent.Hereis xid info body) = MayHave client info
Tells client before (sent.Comingsoon xid info block_size) = MayHave client info
Tells client before (sent.Notification xid info) = MayHave client info
Tells client before (sent.Blkdata xid signature number block) = WasAnnounced client before signature
Tells client before (sent.QstatReply xid stat) = TellsFigures client stat
-- another reply, a refusal, and that the peer is alive: nothing of a product, and no figures
Tells client before (sent.FeedmeReply xid answer) = Unit {0}
Tells client before (sent.HiyaReply xid max_hereis answer) = Unit {0}
Tells client before (sent.ComingsoonReply xid answer) = Unit {0}
Tells client before (sent.Isalive xid) = Unit {0}
Tells client before (sent.PutReply xid answer) = Unit {0}
Tells client before (sent.NotifymeReply xid answer) = Unit {0}
Tells client before (sent.Refused xid why) = Unit {0}
-- no call that asks the peer for something, and none that hands it a product, goes out
Tells client before (sent.Feedme xid class max_hereis) = ⊥
Tells client before (sent.Hiya xid class) = ⊥
Tells client before (sent.Qstat xid) = ⊥
Tells client before (sent.Put xid info body) = ⊥
Tells client before (sent.Notifyme xid class) = ⊥

-- each of these messages, one behind the other
abbrev pub AllTell : Client → (before messages : List Sent) → Type 0
AllTell client before [] = Unit {0}
AllTell client before (message ∷ messages) = Tells client before message × AllTell client (before ++ message ∷ []) messages

-- A link was sent the records of messages, or a front of them, and these tell only what the host may be told.
pub record SendsOnly (client : Client) (old new : LinkRecord) : Type 0 where
  pub messages : List Sent
  pub tell : AllTell client [] messages
  pub sent : List ℕ
  pub rest : List ℕ
  pub front : sent ++ rest ≡ records_of messages
  pub given : List ℕ
  pub exchanged : Exchanged old sent given new

-- a message that may go, and has nothing of any product
abbrev pub TellsNone : Sent → Type 0
TellsNone (sent.Hereis xid info body) = ⊥
TellsNone (sent.Comingsoon xid info block_size) = ⊥
TellsNone (sent.Notification xid info) = ⊥
TellsNone (sent.Blkdata xid signature number block) = ⊥
TellsNone (sent.FeedmeReply xid answer) = Unit {0}
TellsNone (sent.HiyaReply xid max_hereis answer) = Unit {0}
TellsNone (sent.ComingsoonReply xid answer) = Unit {0}
TellsNone (sent.Isalive xid) = Unit {0}
TellsNone (sent.QstatReply xid stat) = Unit {0}
TellsNone (sent.PutReply xid answer) = Unit {0}
TellsNone (sent.NotifymeReply xid answer) = Unit {0}
TellsNone (sent.Refused xid why) = Unit {0}
TellsNone (sent.Feedme xid class max_hereis) = ⊥
TellsNone (sent.Hiya xid class) = ⊥
TellsNone (sent.Qstat xid) = ⊥
TellsNone (sent.Put xid info body) = ⊥
TellsNone (sent.Notifyme xid class) = ⊥

abbrev pub AllTellNone : List Sent → Type 0
AllTellNone [] = Unit {0}
AllTellNone (message ∷ messages) = TellsNone message × AllTellNone messages
