-- What the front of a call says by itself.
use Rattle.std.specs.Prelude.{ℕ, List, Result, Ok, Err}
use Rattle.ldm_types.specs.Info.{Metadata}
use Rattle.ldm_xdr.specs.Reading.{info_in}
use Rattle.ldm_relay.specs.declared.fault.RelayFault.{RelayFault}
use Rattle.ldm_relay.specs.declared.front.CallFront.{CallFront}
use Rattle.ldm_relay.specs.declared.front.CallFront.TheVariants as front
use Rattle.ldm_relay.specs.declared.front.FeedFront.{FeedFront}
use Rattle.ldm_relay.specs.declared.front.FeedFront.TheVariants as feed_front
use Rattle.ldm_relay.specs.declared.header.CallHeader.{CallHeader}
use Rattle.ldm_relay.specs.declared.procedure.Procedure.{Procedure}
use Rattle.ldm_relay.specs.declared.procedure.Procedure.TheVariants as procedure
use Rattle.ldm_relay.specs.Headers.{call_header_in}
use Rattle.ldm_relay.specs.Reading.{called}

-- a PUT, where its metadata can be read
abbrev pub put_front : ℕ → Result (Metadata × List ℕ) ℕ → CallFront
put_front xid (Ok found) = front.Put xid found.0
put_front xid (Err left) = front.Other

-- what stands behind the header of a call of that procedure
abbrev pub front_by : Procedure → ℕ → List ℕ → CallFront
front_by procedure.Put xid left = put_front xid (info_in left)
front_by procedure.Hereis xid left = front.Carries
front_by procedure.Blkdata xid left = front.Carries
front_by _ xid left = front.Other

-- the same, where the header names a procedure
abbrev pub front_called : ℕ → List ℕ → Result Procedure RelayFault → CallFront
front_called xid left (Ok called) = front_by called xid left
front_called xid left (Err fault) = front.Other

-- the same, where there is a header
abbrev pub front_behind : Result (CallHeader × List ℕ) ℕ → CallFront
front_behind (Ok header) = front_called header.0.xid header.1 (called header.0)
front_behind (Err left) = front.Other

-- What some bytes begin with. No more of them is asked than the header, and of a PUT the metadata.
unfoldable pub front_of : List ℕ → CallFront
front_of bytes = front_behind (call_header_in bytes)

-- what a call of that procedure is in a feed
abbrev pub feed_front_by : Procedure → FeedFront
feed_front_by procedure.Hereis = feed_front.Hereis
feed_front_by procedure.Blkdata = feed_front.Blkdata
feed_front_by _ = feed_front.Other

-- the same, where the header names a procedure
abbrev pub feed_front_called : Result Procedure RelayFault → FeedFront
feed_front_called (Ok called) = feed_front_by called
feed_front_called (Err fault) = feed_front.Other

-- the same, where there is a header
abbrev pub feed_front_behind : Result (CallHeader × List ℕ) ℕ → FeedFront
feed_front_behind (Ok header) = feed_front_called (called header.0)
feed_front_behind (Err left) = feed_front.Other

-- What some bytes of a feed begin with. No more of them is asked than the header.
unfoldable pub feed_front_of : List ℕ → FeedFront
feed_front_of bytes = feed_front_behind (call_header_in bytes)
