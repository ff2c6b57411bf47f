use Rattle.ldm_freelist.proofs.free_set.FreeSet.remove.Given as goal

abbrev pub ghosts-detach_alone : goal.ghosts-detach_alone
ghosts-detach_alone a = record { name = a.blank.name; parts = a.blank.parts }
