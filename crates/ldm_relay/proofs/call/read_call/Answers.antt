use Rattle.std.proofs.Common.{arith}
use Rattle.ldm_relay.specs.MessageView.{sent_of}
use Rattle.ldm_relay.proofs.Room.{short_behind}
use Rattle.ldm_relay.proofs.Sized.{fits_sized}
use Rattle.ldm_relay.proofs.call.read_call.Goals as goal

pub returns-in-Ok-read_rest-clause-writable : goal.returns-in-Ok-read_rest-clause-writable
returns-in-Ok-read_rest-clause-writable c =
    λ within. (
      fits_sized (sent_of c.in-Ok-read_rest.message) c.in-Ok-read_rest.ensures.fits,
      short_behind c.args.bytes.now (c.in-Ok.header, c.read_call_header.new.fields) c.in_ok-procedure.procedure (sent_of c.in-Ok-read_rest.message)
          (λ i. omega (arith, c.type_inv.bytes i)) (rw c.of-fields.ensures at c.in-Ok.ensures) c.in-Ok-read_rest.ensures.read within,
    )
