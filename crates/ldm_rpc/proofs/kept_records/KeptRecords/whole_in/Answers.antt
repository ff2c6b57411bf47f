use Rattle.ldm_rpc.proofs.kept_records.KeptRecords.whole_in.Goals as goal

pub returns-clause-none : goal.returns-clause-none
returns-clause-none c = rw (← c.self.view_is) c.whole_in.ensures.none
