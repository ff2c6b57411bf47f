use Rattle.ldm_regions.proofs.gaps.last_to.Given as goal

abbrev pub ghosts-last_to_of : goal.ghosts-last_to_of
ghosts-last_to_of a = record { name = a.blank.name; parts = a.blank.parts }
