use Rattle.std.proofs.Common.{◌∙◌, Bool, sym, subst}
use Rattle.ldm_commands.specs.Run.{ReportsUsageIf}
use Rattle.ldm_commands.proofs.usage.report_words.Goals as goal

pub returns-then-has_options-clause-reports : goal.returns-then-has_options-clause-reports
returns-then-has_options-clause-reports g c =
    let tells = g.E.Sink.tells in
    subst (λ (explains : Bool). ReportsUsageIf explains c.report_because.result (tells c.args.log.now) (tells c.report_because.new.log))
    (sym (sym c.has_options.ensures ∙ c.if-has_options.true)) c.report_because.ensures.because

pub returns-else-has_options-clause-reports : goal.returns-else-has_options-clause-reports
returns-else-has_options-clause-reports g c =
    let tells = g.E.Sink.tells in
    subst (λ (explains : Bool). ReportsUsageIf explains c.report.result (tells c.args.log.now) (tells c.report.new.log))
    (sym (sym c.has_options.ensures ∙ c.if-has_options.false)) c.report.ensures.reports
