-- Which messages can be written.
use Rattle.std.specs.Prelude.{◌≡◌, ℕ, ◌+◌, ◌≤◌, length}
use Rattle.ldm_types.specs.Info.{Metadata, pad4, metadata_len}
use Rattle.ldm_relay.specs.declared.message.TheConstants.{LARGEST_BLOCK, LARGEST_CONTENT}
use Rattle.ldm_relay.specs.Sent.{Sent}
use Rattle.ldm_relay.specs.Sent as sent

-- so many bytes are not too many for a block
abbrev pub IsBlockLen : ℕ → Type 0
IsBlockLen len = len ≤ LARGEST_BLOCK

-- The content with a product of so many bytes is not too long: a header of 40 bytes, the metadata, and the body with its
-- padding.
abbrev pub IsShortProduct : Metadata → ℕ → Type 0
IsShortProduct info len = 40 + metadata_len info + pad4 len ≤ LARGEST_CONTENT

-- a body has the size that its metadata tell, and a block is not too long
abbrev pub IsSized : Sent → Type 0
IsSized (sent.Feedme xid class max_hereis) = Unit {0}
IsSized (sent.FeedmeReply xid answer) = Unit {0}
IsSized (sent.Hiya xid class) = Unit {0}
IsSized (sent.HiyaReply xid max_hereis answer) = Unit {0}
IsSized (sent.Hereis xid info body) = length body ≡ info.size
IsSized (sent.Comingsoon xid info block_size) = Unit {0}
IsSized (sent.ComingsoonReply xid answer) = Unit {0}
IsSized (sent.Blkdata xid signature number block) = IsBlockLen (length block)
IsSized (sent.Isalive xid) = Unit {0}
IsSized (sent.Qstat xid) = Unit {0}
IsSized (sent.QstatReply xid stat) = Unit {0}
IsSized (sent.Put xid info body) = length body ≡ info.size
IsSized (sent.PutReply xid answer) = Unit {0}
IsSized (sent.Notifyme xid class) = Unit {0}
IsSized (sent.NotifymeReply xid answer) = Unit {0}
IsSized (sent.Notification xid info) = Unit {0}
IsSized (sent.Refused xid why) = Unit {0}

-- The content with a product is not too long. That of other messages never is.
abbrev pub IsShort : Sent → Type 0
IsShort (sent.Feedme xid class max_hereis) = Unit {0}
IsShort (sent.FeedmeReply xid answer) = Unit {0}
IsShort (sent.Hiya xid class) = Unit {0}
IsShort (sent.HiyaReply xid max_hereis answer) = Unit {0}
IsShort (sent.Hereis xid info body) = IsShortProduct info (length body)
IsShort (sent.Comingsoon xid info block_size) = Unit {0}
IsShort (sent.ComingsoonReply xid answer) = Unit {0}
IsShort (sent.Blkdata xid signature number block) = Unit {0}
IsShort (sent.Isalive xid) = Unit {0}
IsShort (sent.Qstat xid) = Unit {0}
IsShort (sent.QstatReply xid stat) = Unit {0}
IsShort (sent.Put xid info body) = IsShortProduct info (length body)
IsShort (sent.PutReply xid answer) = Unit {0}
IsShort (sent.Notifyme xid class) = Unit {0}
IsShort (sent.NotifymeReply xid answer) = Unit {0}
IsShort (sent.Notification xid info) = Unit {0}
IsShort (sent.Refused xid why) = Unit {0}

-- what can be written: messages of any fields otherwise
abbrev pub IsWritable : Sent → Type 0
IsWritable m = IsSized m × IsShort m
