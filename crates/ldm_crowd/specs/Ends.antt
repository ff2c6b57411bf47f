-- Which of many ends is told.
use Rattle.std.specs.Prelude.{List, [], ◌∷◌}
use Rattle.ldm_crowd.specs.declared.outcome.CrowdEnd.{CrowdEnd}
use Rattle.ldm_crowd.specs.declared.outcome.CrowdEnd.TheVariants as crowd_end

-- an end, or the later one where all lines were played
abbrev pub or_end : CrowdEnd → CrowdEnd → CrowdEnd
or_end crowd_end.Done later = later
or_end crowd_end.Stopped later = crowd_end.Stopped
or_end crowd_end.Worn later = crowd_end.Worn
or_end crowd_end.OutOfMemory later = crowd_end.OutOfMemory

-- the end of the first that did not play all its lines
abbrev pub first_end : List CrowdEnd → CrowdEnd
first_end [] = crowd_end.Done
first_end (end ∷ ends) = or_end end (first_end ends)
