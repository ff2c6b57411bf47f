-- Messages that may go whatever went before: they have nothing of a product, and figures only for a host that may ask for them.
use Rattle.std.proofs.Common.{List, [], ◌∷◌, ◌++◌}
use Rattle.ldm_relay.specs.Sent.{Sent}
use Rattle.ldm_relay.specs.Sent as sent
use Rattle.ldm_serve.specs.Client.{Client}
use Rattle.ldm_serve.specs.Kept.{AllTell, AllTellNone, Tells, TellsFigures, TellsNone}

module _ (client : Client) where
  abbrev pub MayGo : Sent → Type 0
  MayGo (sent.QstatReply xid stat) = TellsFigures client stat
  MayGo message = TellsNone message

  abbrev pub AllMayGo : List Sent → Type 0
  AllMayGo [] = Unit {0}
  AllMayGo (message ∷ messages) = MayGo message × AllMayGo messages

  pub go-append : (first second : List Sent) → AllMayGo first → AllMayGo second → AllMayGo (first ++ second)
  go-append [] second one two = two
  go-append (message ∷ first) second one two = (one.0, go-append first second one.1 two)

  -- nothing of a product
  goes-none : (message : Sent) → MayGo message → TellsNone message
  goes-none (sent.QstatReply xid stat) go = tt
  goes-none _ go = go

  pub go-none : (messages : List Sent) → AllMayGo messages → AllTellNone messages
  go-none [] go = tt
  go-none (message ∷ messages) go = (goes-none message go.0, go-none messages go.1)

  -- behind any others
  goes-tell : (before : List Sent) (message : Sent) → MayGo message → Tells client before message
  goes-tell before (sent.Hereis xid info body) go = absurd go
  goes-tell before (sent.Comingsoon xid info block_size) go = absurd go
  goes-tell before (sent.Notification xid info) go = absurd go
  goes-tell before (sent.Blkdata xid signature number block) go = absurd go
  goes-tell before _ go = go

  pub go-tell : (before messages : List Sent) → AllMayGo messages → AllTell client before messages
  go-tell before [] go = tt
  go-tell before (message ∷ messages) go = (goes-tell before message go.0, go-tell (before ++ message ∷ []) messages go.1)
