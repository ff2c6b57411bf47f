use Rattle.std.proofs.Common.{subst}
use Rattle.ldm_watch.specs.Outside.{watch_tells}
use Rattle.ldm_watch.specs.Sought.{Sought, sought_by}
use Rattle.ldm_watch.specs.StreamView.{StreamView}
use Rattle.ldm_watch.specs.Watches.{Watches}
use Rattle.ldm_watch.proofs.Accepted.{completes}
use Rattle.ldm_watch.proofs.session.watch.Goals as goal

pub returns-in-Ok-clause-completes : goal.returns-in-Ok-clause-completes
returns-in-Ok-clause-completes g c =
    let old = watch_tells g.K.Link.tells g.S.Sink.tells c.args.link.now c.args.sink.now in
    let new = watch_tells g.K.Link.tells g.S.Sink.tells c.run.new.link c.run.new.sink in
    let sought : Sought = record { class = c.args.class.now; count = c.args.count; form = c.args.form } in
    let whole : Watches c.run.result sought old new =
    subst (λ (s : StreamView). Watches c.run.result (sought_by s.watching) old new) c.in-Ok.ensures.stream c.run.ensures.watches in
    completes c.run.result sought old new whole
