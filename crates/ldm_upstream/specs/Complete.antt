-- How a feeding ends where nothing fails and the peer answers its announcements.
use Rattle.std.specs.Prelude.{◌≡◌, ◌⊎◌, ℕ, ◌<◌, List, [], ◌∷◌, length, map}
use Rattle.std.specs.List.{flat_map}
use Rattle.ldm_outside.specs.Count.{Rose}
use Rattle.ldm_outside.specs.Session.{SessionRecord}
use Rattle.ldm_rpc.specs.Streams.{Placed}
use Rattle.ldm_relay.specs.Sent.{Sent}
use Rattle.ldm_relay.specs.Sent as sent
use Rattle.ldm_shared.specs.Passes.{PassView}
use Rattle.ldm_shared.specs.declared.steps.TheConstants.{MOST_TURNS}
use Rattle.ldm_session.specs.Owed.{Code, Said}
use Rattle.ldm_sender.specs.declared.end.SendEnd.{SendEnd}
use Rattle.ldm_sender.specs.declared.end.SendEnd.TheVariants as end
use Rattle.ldm_sender.specs.Asked.{Asked}
use Rattle.ldm_sender.specs.Opening.{Answered, Denied, Reclassed, Busy, Opened}
use Rattle.ldm_upstream.specs.Feeding.{Feeding, messages_of}

-- the number of a message that announces a product
abbrev pub announced : Sent → List ℕ
announced (sent.Comingsoon xid info block_size) = xid ∷ []
announced _ = []

-- the numbers of all announcements of a feeding, in order
abbrev pub announcements_of : Asked → Feeding → List ℕ
announcements_of asked feeding = flat_map announced (messages_of asked feeding)

-- the numbers of the announcements that were answered
abbrev pub numbers_of : List Code → List ℕ
numbers_of codes = map (λ (code : Code). code.xid) codes

-- What a peer sends that keeps to the protocol: its first records are replies to the announcements of these numbers,
-- one to each, in
-- order. What they say, and what stands behind them, is any.
pub record RepliesTo (numbers stream : List ℕ) : Type 0 where
  pub codes : List Code
  pub to : numbers_of codes ≡ numbers
  pub behind : List Placed
  pub said : Said stream codes behind

-- the reply that says so
abbrev pub reply_for : Code → Sent
reply_for code = sent.ComingsoonReply code.xid code.answer

-- No count rose: neither link nor log failed, and the link did not come to the end of its stream.
pub record NoneRose (before after : SessionRecord) : Type 0 where
  pub link : ¬ Rose before.link.faults after.link.faults
  pub ends : ¬ Rose before.link.ends after.link.ends
  pub log : ¬ Rose before.log.faults after.log.faults

-- the queue can have a call more
abbrev pub HasCallsLeft : PassView → Type 0
HasCallsLeft pass = length pass.seen < MOST_TURNS

-- The answer to the request decides the end: a cursor that was opened is stepped until the gate says to stop. Or there
-- is no
-- memory.
abbrev pub IsEndFor : Answered → SendEnd → Type 0
IsEndFor (Denied rule) why = (why ≡ end.Denied rule) ⊎ (why ≡ end.OutOfMemory)
IsEndFor (Reclassed class) why = (why ≡ end.Reclassed) ⊎ (why ≡ end.OutOfMemory)
IsEndFor (Busy missed) why = (why ≡ end.AllBusy) ⊎ (why ≡ end.OutOfMemory)
IsEndFor (Opened missed k) why = (why ≡ end.Stopped) ⊎ (why ≡ end.OutOfMemory)
