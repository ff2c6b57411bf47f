use Rattle.ldm_pqact_command.proofs.command.keep_last.Goals as goal

pub keep_last-requires : goal.keep_last-requires
keep_last-requires g c = c.requires _ _
