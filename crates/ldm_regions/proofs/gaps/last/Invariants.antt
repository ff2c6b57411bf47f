use Rattle.ldm_regions.proofs.gaps.last.Given as goal

abbrev pub ghosts-greatest_of : goal.ghosts-greatest_of
ghosts-greatest_of a = record { name = a.blank.name; parts = a.blank.parts }
