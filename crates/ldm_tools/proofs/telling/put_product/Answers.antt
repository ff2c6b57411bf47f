use Rattle.std.proofs.Common.{refl}
use Rattle.ldm_tools.specs.Telling.{Product, putting_tells}
use Rattle.ldm_tools.proofs.Told.{line_told, not_answered}
use Rattle.ldm_tools.proofs.telling.put_product.Goals as goal

pub returns-in-Ok-clause-puts : goal.returns-in-Ok-clause-puts
returns-in-Ok-clause-puts g c =
    let product : Product = record { info = c.args.info.now; body = c.args.body.now } in
    let old = putting_tells g.L.Link.tells g.K.Sink.tells c.args.puts.now c.args.link.now c.args.sink.now in
    let new = putting_tells g.L.Link.tells g.K.Sink.tells c.put.new.self c.put.new.link c.tell_answer.new.sink in
    line_told product old new c.tell_answer.result c.in-Ok.answer c.in-Ok.ensures.puts c.tell_answer.ensures.tells

pub returns-in-Err-clause-puts : goal.returns-in-Err-clause-puts
returns-in-Err-clause-puts g c =
    let product : Product = record { info = c.args.info.now; body = c.args.body.now } in
    let old = putting_tells g.L.Link.tells g.K.Sink.tells c.args.puts.now c.args.link.now c.args.sink.now in
    let new = putting_tells g.L.Link.tells g.K.Sink.tells c.put.new.self c.put.new.link c.args.sink.now in
    not_answered product old new c.in-Err.why c.in-Err.ensures.puts refl
