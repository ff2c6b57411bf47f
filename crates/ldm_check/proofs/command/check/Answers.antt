use Rattle.std.proofs.Common.{inl, inr}
use Rattle.ldm_check.specs.Warnings.{warning_views}
use Rattle.ldm_check.proofs.command.check.Goals as goal

pub returns-clause-ends : goal.returns-clause-ends
returns-clause-ends g c =
    let written = rw (c.as_slice-2.ensures.value, c.in-Ok-joined.ensures) at c.in-Err.ensures.written in
    inl (record {
      faults = c.in-Ok.search.faults.items;
      finds = c.in-Ok.ensures.found;
      warnings = warning_views c.in-Ok.search.warnings.list.items;
      writes = inr (written.0, written.1, c.report-in-Err.ensures.reports);
    })
