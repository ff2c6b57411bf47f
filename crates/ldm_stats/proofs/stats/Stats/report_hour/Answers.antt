use Rattle.std.proofs.Common.{ap}
use Rattle.ldm_stats.specs.Joining.{Entries}
use Rattle.ldm_stats.specs.Report.{in_hour, lines_of}
use Rattle.ldm_stats.specs.Table.{StandsFor}
use Rattle.ldm_stats.specs.Totals.{totals}
use Rattle.ldm_stats.proofs.Lines.{written_for}
use Rattle.ldm_stats.proofs.stats.Stats.report_hour.Goals as goal

pub returns-clause-of_products : goal.returns-clause-of_products
returns-clause-of_products c =
    written_for c.write.result c.args.out.now.items c.write.new.out.items (in_hour c.args.hour c.args.self.now.entries) (λ products. in_hour c.args.hour (totals c.args.self.now.window products))
    (λ products. StandsFor c.args.self.now products) (rw (← c.self.view_is) c.write.ensures.whole) (λ products s. ap (λ (es : Entries). lines_of (in_hour c.args.hour es)) s.entries)
