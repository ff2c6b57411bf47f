use Rattle.drive_values.proofs.queue.gaps.Gaps.greatest.Given as goal

abbrev pub ghosts-greatest_of : goal.ghosts-greatest_of
ghosts-greatest_of a = record { name = a.blank.name; parts = a.blank.parts }
