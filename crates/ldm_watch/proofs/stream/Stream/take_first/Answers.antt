use Rattle.ldm_rpc.specs.Streams.{Position}
use Rattle.ldm_watch.specs.Taking.{standing}
use Rattle.ldm_watch.proofs.Found.{first-fault}
use Rattle.ldm_watch.proofs.stream.Stream.take_first.Goals as goal

pub returns-in-Err-TooLong : goal.returns-in-Err-TooLong
returns-in-Err-TooLong c =
    let inside = c.self.inside in
    let p : Position = record { reading = inside.records; begins = inside.begins; came = inside.came } in
    rw (← c.self.view_is)
    (first-fault p c.args.bytes.now c.push.new.self c.in-Err-TooLong.field-0 c.in-Err-TooLong.field-0-0 c.in-Err-TooLong.field-0-is c.in-Err-TooLong.ensures.fault
    (standing inside.watching c.args.out.now c.args.lines.now))
