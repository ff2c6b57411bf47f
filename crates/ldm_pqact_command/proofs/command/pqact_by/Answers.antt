use Rattle.std.proofs.Common.{inl, inr, refl}
use Rattle.ldm_pqact_command.proofs.command.pqact_by.Goals as goal

pub returns-in-Ok-clause-ends : goal.returns-in-Ok-clause-ends
returns-in-Ok-clause-ends g c = inr (record {
  entries = c.in-Ok.entries;
  read = c.take_entries.new.store;
  takes = c.in-Ok.ensures.takes;
  resumes = c.resume.ensures.resumes;
})

pub returns-in-Err-clause-ends : goal.returns-in-Err-clause-ends
returns-in-Err-clause-ends g c = inl (record { why = c.in-Err.fault; is = refl; takes = c.in-Err.ensures.takes; others = refl })
