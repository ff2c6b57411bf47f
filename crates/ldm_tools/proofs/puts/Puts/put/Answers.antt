use Rattle.std.proofs.Common.{◌+◌, ◌%◌, refl}
use Rattle.ldm_tools.specs.declared.puts.Puts.{Puts}
use Rattle.ldm_tools.proofs.Answered.{puts_failed, puts_heard}
use Rattle.ldm_tools.proofs.puts.Puts.put.Goals as goal

pub returns-in-Ok-clause-puts : goal.returns-in-Ok-clause-puts
returns-in-Ok-clause-puts g c =
    let tells = g.K.Link.tells in
    let old = c.args.self.now in
    let new : Puts = record { reader = c.hear_put.new.reader; head = c.send_put.new.head; next = (old.next + 1) % 4294967296 } in
    puts_heard c.hear_put.result c.args.info.now c.args.body.now old new (tells c.args.link.now) (tells c.send_put.new.link) (tells c.hear_put.new.link) c.in-Ok.ensures.sent refl c.hear_put.ensures.heard

pub returns-in-Err-clause-puts : goal.returns-in-Err-clause-puts
returns-in-Err-clause-puts g c =
    let tells = g.K.Link.tells in
    let old = c.args.self.now in
    let new : Puts = record { reader = old.reader; head = c.send_put.new.head; next = (old.next + 1) % 4294967296 } in
    puts_failed c.in-Err.why c.args.info.now c.args.body.now old new (tells c.args.link.now) (tells c.send_put.new.link) c.in-Err.ensures.sent
