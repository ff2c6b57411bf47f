use Rattle.ldm_freelist.proofs.free_set.FreeSet.add.Given as goal

abbrev pub ghosts-insert_alone : goal.ghosts-insert_alone
ghosts-insert_alone a = record { name = a.blank.name; parts = a.blank.parts }
