-- What contracts see of a scanner, and what it keeps.
use Rattle.std.specs.Prelude.{◌<◌, ◌≤◌, ◌^◌}
use Rattle.std.specs.Vec.{vec_capacity}
use Rattle.ldm_wmo.specs.declared.stage.TheConstants.{LARGEST_BULLETIN}
use Rattle.ldm_wmo.specs.declared.scanner.Scanner.TheInside.{Inside}
use Rattle.ldm_wmo.specs.Scanning.{Scanning}
use Rattle.ldm_wmo.specs.Stages.{StageFits}

abbrev pub scanning_of : Inside → Scanning
scanning_of s = record { place = s.place; candidate = s.candidate.items; stage = s.stage }

-- there is memory for the longest candidate
pub record IsKept (s : Inside) : Type 0 where
  pub small : s.place < 2 ^ 64
  pub stage : StageFits s.stage s.candidate.items
  pub room : LARGEST_BULLETIN ≤ vec_capacity s.candidate
