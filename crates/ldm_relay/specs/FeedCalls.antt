-- The calls of a feed, as plain data, and what is none.
use Rattle.std.specs.Prelude.{ℕ, List, Result, Ok, Err}
use Rattle.ldm_relay.specs.declared.feed.FeedCall.{FeedCall}
use Rattle.ldm_relay.specs.declared.feed.FeedCall.TheVariants as feed_call
use Rattle.ldm_relay.specs.declared.message.Message.TheVariants as message
use Rattle.ldm_relay.specs.MessageView.{sent_of}
use Rattle.ldm_relay.specs.Sent.{Sent}
use Rattle.ldm_relay.specs.Sent as sent

-- what a contract sees of a call of a feed
abbrev pub feed_sent_of : FeedCall → Sent
feed_sent_of (feed_call.Hereis m) = sent_of (message.Hereis m)
feed_sent_of (feed_call.Comingsoon m) = sent_of (message.Comingsoon m)
feed_sent_of (feed_call.Blkdata m) = sent_of (message.Blkdata m)
feed_sent_of (feed_call.Isalive m) = sent_of (message.Isalive m)

-- it is no call of a feed
abbrev pub IsOther : Sent → Type 0
IsOther (sent.Hereis xid info body) = ⊥
IsOther (sent.Comingsoon xid info block_size) = ⊥
IsOther (sent.Blkdata xid signature number block) = ⊥
IsOther (sent.Isalive xid) = ⊥
IsOther (sent.Feedme xid class max_hereis) = Unit {0}
IsOther (sent.FeedmeReply xid answer) = Unit {0}
IsOther (sent.Hiya xid class) = Unit {0}
IsOther (sent.HiyaReply xid max_hereis answer) = Unit {0}
IsOther (sent.ComingsoonReply xid answer) = Unit {0}
IsOther (sent.Qstat xid) = Unit {0}
IsOther (sent.QstatReply xid stat) = Unit {0}
IsOther (sent.Put xid info body) = Unit {0}
IsOther (sent.PutReply xid answer) = Unit {0}
IsOther (sent.Notifyme xid class) = Unit {0}
IsOther (sent.NotifymeReply xid answer) = Unit {0}
IsOther (sent.Notification xid info) = Unit {0}
IsOther (sent.Refused xid why) = Unit {0}

-- what was read is no call of a feed: it is another message, or none
abbrev pub IsNoFeedCall : {E : Type 0} → Result Sent E → Type 0
IsNoFeedCall (Ok m) = IsOther m
IsNoFeedCall (Err fault) = Unit {0}

-- the same of a body, with the bytes behind it
abbrev pub IsNoFeedBody : Result (Sent × List ℕ) ℕ → Type 0
IsNoFeedBody (Ok m) = IsOther m.0
IsNoFeedBody (Err bad) = Unit {0}
