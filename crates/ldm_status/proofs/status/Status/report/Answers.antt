use Rattle.std.proofs.Common.{◌≡◌, ◌∙◌, ℕ, List, refl, subst, inr}
use Rattle.ldm_outside.specs.Io.{WritesFront}
use Rattle.ldm_status.specs.Status.{log_line}
use Rattle.ldm_status.proofs.status.Status.report.Goals as goal

pub returns-in-Err-clause-reports : goal.returns-in-Err-clause-reports
returns-in-Err-clause-reports g c =
    let failed = c.in-Err.ensures.written in
    let line : c.as_slice.result.now ≡ log_line c.args.self.now = c.as_slice.ensures.value ∙ c.write_line.ensures in
    inr (refl, failed.0, subst (λ (t : List ℕ). WritesFront (g.E.Sink.tells c.args.log.now) t (g.E.Sink.tells c.write_all.new.sink)) line failed.1)
