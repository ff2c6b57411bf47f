-- The bodies of calls, by their procedures.
use Rattle.std.specs.Prelude.{ℕ, List, Result, Ok}
use Rattle.ldm_types.specs.Info.{Metadata}
use Rattle.ldm_xdr.specs.Reading.{info_in}
use Rattle.ldm_relay.specs.declared.message.TheConstants.{LARGEST_BLOCK}
use Rattle.ldm_relay.specs.declared.procedure.Procedure.{Procedure}
use Rattle.ldm_relay.specs.declared.procedure.Procedure.TheVariants as procedure
use Rattle.ldm_relay.specs.Sent.{Sent}
use Rattle.ldm_relay.specs.Sent as sent
use Rattle.ldm_xdr.specs.Fields.{◌>>=◌, unsigned_in, fixed_in, opaque_in}
use Rattle.ldm_relay.specs.Classes.{class_in}

unfoldable pub feedme_in : ℕ → List ℕ → Result (Sent × List ℕ) ℕ
feedme_in xid left = do
  class ← class_in left
  max_hereis ← unsigned_in class.1
  Ok (sent.Feedme xid class.0 max_hereis.0, max_hereis.1)

unfoldable pub hiya_in : ℕ → List ℕ → Result (Sent × List ℕ) ℕ
hiya_in xid left = do
  class ← class_in left
  Ok (sent.Hiya xid class.0, class.1)

-- metadata, and as many bytes as they say
unfoldable pub product_in : List ℕ → Result ((Metadata × List ℕ) × List ℕ) ℕ
product_in left = do
  info ← info_in left
  body ← fixed_in info.0.size info.1
  Ok ((info.0, body.0), body.1)

unfoldable pub hereis_in : ℕ → List ℕ → Result (Sent × List ℕ) ℕ
hereis_in xid left = do
  product ← product_in left
  Ok (sent.Hereis xid product.0.0 product.0.1, product.1)

unfoldable pub put_in : ℕ → List ℕ → Result (Sent × List ℕ) ℕ
put_in xid left = do
  product ← product_in left
  Ok (sent.Put xid product.0.0 product.0.1, product.1)

unfoldable pub comingsoon_in : ℕ → List ℕ → Result (Sent × List ℕ) ℕ
comingsoon_in xid left = do
  info ← info_in left
  block_size ← unsigned_in info.1
  Ok (sent.Comingsoon xid info.0 block_size.0, block_size.1)

unfoldable pub blkdata_in : ℕ → List ℕ → Result (Sent × List ℕ) ℕ
blkdata_in xid left = do
  signature ← fixed_in 16 left
  number ← unsigned_in signature.1
  block ← opaque_in LARGEST_BLOCK number.1
  Ok (sent.Blkdata xid signature.0 number.0 block.0, block.1)

unfoldable pub notifyme_in : ℕ → List ℕ → Result (Sent × List ℕ) ℕ
notifyme_in xid left = do
  class ← class_in left
  Ok (sent.Notifyme xid class.0, class.1)

unfoldable pub notification_in : ℕ → List ℕ → Result (Sent × List ℕ) ℕ
notification_in xid left = do
  info ← info_in left
  Ok (sent.Notification xid info.0, info.1)

-- what stands behind the header of a call
abbrev pub call_in : Procedure → ℕ → List ℕ → Result (Sent × List ℕ) ℕ
call_in procedure.Hereis xid left = hereis_in xid left
call_in procedure.Feedme xid left = feedme_in xid left
call_in procedure.Hiya xid left = hiya_in xid left
call_in procedure.Comingsoon xid left = comingsoon_in xid left
call_in procedure.Blkdata xid left = blkdata_in xid left
call_in procedure.Isalive xid left = Ok (sent.Isalive xid, left)
call_in procedure.Qstat xid left = Ok (sent.Qstat xid, left)
call_in procedure.Put xid left = put_in xid left
call_in procedure.Notification xid left = notification_in xid left
call_in procedure.Notifyme xid left = notifyme_in xid left
