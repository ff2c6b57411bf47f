use Rattle.ldm_regions.proofs.gaps.first_from.Given as goal

abbrev pub ghosts-best_of : goal.ghosts-best_of
ghosts-best_of a = record { name = a.blank.name; parts = a.blank.parts }
