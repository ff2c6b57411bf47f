-- Calls that carry bytes: what stands before these, and the message with them.
use Rattle.std.specs.Prelude.{ℕ, List, ◌++◌}
use Rattle.ldm_xdr.specs.Spelling.{spelling, unsigned}
use Rattle.ldm_relay.specs.declared.body.CallWithBody.{CallWithBody}
use Rattle.ldm_relay.specs.declared.body.CallWithBody.TheVariants as with
use Rattle.ldm_relay.specs.declared.procedure.Procedure.TheVariants as procedure
use Rattle.ldm_relay.specs.Spelling.{call_header}
use Rattle.ldm_relay.specs.Sent.{Sent}
use Rattle.ldm_relay.specs.Sent as sent
use Rattle.ldm_relay.specs.Writable.{IsBlockLen, IsShortProduct}

-- how many bytes it carries
abbrev pub body_len : CallWithBody → ℕ
body_len (with.Hereis xid info) = info.now.size
body_len (with.Put xid info) = info.now.size
body_len (with.Blkdata xid signature number len) = len

-- the message with these bytes
abbrev pub with_body : CallWithBody → List ℕ → Sent
with_body (with.Hereis xid info) body = sent.Hereis xid info.now body
with_body (with.Put xid info) body = sent.Put xid info.now body
with_body (with.Blkdata xid signature number len) body = sent.Blkdata xid signature.0 number body

-- The content with a body of that length is not too long.
abbrev pub CanCarry : CallWithBody → Type 0
CanCarry (with.Hereis xid info) = IsShortProduct info.now info.now.size
CanCarry (with.Put xid info) = IsShortProduct info.now info.now.size
CanCarry (with.Blkdata xid signature number len) = IsBlockLen len

-- what stands before the body
unfoldable pub front_of : CallWithBody → List ℕ
front_of (with.Hereis xid info) = call_header xid procedure.Hereis ++ spelling info.now
front_of (with.Put xid info) = call_header xid procedure.Put ++ spelling info.now
front_of (with.Blkdata xid signature number len) = call_header xid procedure.Blkdata ++ (signature.0 ++ unsigned number ++ unsigned len)
