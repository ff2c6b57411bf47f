use Rattle.std.proofs.Common.{◌≤◌, length, arith}
use Rattle.ldm_pqstats.specs.declared.limits.TheConstants.{LARGEST_BODY}
use Rattle.ldm_pqstats.specs.Hours.{hand_tells}
use Rattle.ldm_pqstats.specs.Sending.{hour_at}
use Rattle.ldm_pqstats.proofs.Sent.{put_broken, put_sent}
use Rattle.ldm_pqstats.proofs.hour.put_hour.Goals as goal

pub returns-in-Ok-clause-puts : goal.returns-in-Ok-clause-puts
returns-in-Ok-clause-puts g c stats body_is =
    let short : length c.args.body.now ≤ LARGEST_BODY = omega arith in
    put_sent stats (hour_at c.args.hour c.args.number) c.now.result c.metadata_of-info.result c.args.body.now c.in-Ok.refused
    (hand_tells g.L.Link.tells g.K.Sink.tells g.C.Clock.tells c.args.puts.now c.args.link.now c.args.sink.now c.args.clock.now)
    (hand_tells g.L.Link.tells g.K.Sink.tells g.C.Clock.tells c.put_product.new.puts c.put_product.new.link c.put_product.new.sink c.now.new.self)
    body_is short c.now.ensures c.metadata_of-info.ensures.value c.in-Ok.ensures.puts

pub returns-in-Err-clause-puts : goal.returns-in-Err-clause-puts
returns-in-Err-clause-puts g c stats body_is =
    let short : length c.args.body.now ≤ LARGEST_BODY = omega arith in
    put_broken stats (hour_at c.args.hour c.args.number) c.now.result c.metadata_of-info.result c.args.body.now c.in-Err.why
    (hand_tells g.L.Link.tells g.K.Sink.tells g.C.Clock.tells c.args.puts.now c.args.link.now c.args.sink.now c.args.clock.now)
    (hand_tells g.L.Link.tells g.K.Sink.tells g.C.Clock.tells c.put_product.new.puts c.put_product.new.link c.put_product.new.sink c.now.new.self)
    body_is short c.now.ensures c.metadata_of-info.ensures.value c.in-Err.ensures.puts
