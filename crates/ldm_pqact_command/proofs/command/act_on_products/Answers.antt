use Rattle.ldm_gather.specs.Orders.{order_view}
use Rattle.ldm_pqact_command.specs.PqactRuns.{paths_of, pqact_lent}
use Rattle.ldm_pqact_command.proofs.Completing.{pqact_completes}
use Rattle.ldm_pqact_command.proofs.command.act_on_products.Goals as goal

pub returns-clause-completes : goal.returns-clause-completes
returns-clause-completes g c =
    let at = c.args in
    let now = c.pqact_by-it.new in
    let old = pqact_lent (g.N.Dial.tells at.net.now) at.store.now at.launcher.now (g.E.Sink.tells at.log.now) (g.C.Clock.tells at.clock.now) in
    let ended = pqact_lent (g.N.Dial.tells now.net) now.store now.launcher (g.E.Sink.tells now.log) (g.C.Clock.tells now.clock) in
    pqact_completes g.F.Store.tells g.L.Launcher.tells (order_view at.order.now.order) (paths_of at.order.now) old ended (g.E.Sink.tells c.report.new.log)
    c.pqact_by-it.ensures.counts_kept.log c.report.ensures.faults_kept c.pqact_by-it.result.end c.report.result c.pqact_by-it.ensures.ends c.report.ensures.reports
