use Rattle.drive_values.proofs.queue.gaps.Gaps.best.Given as goal

abbrev pub ghosts-best_of : goal.ghosts-best_of
ghosts-best_of a = record { name = a.blank.name; parts = a.blank.parts }
