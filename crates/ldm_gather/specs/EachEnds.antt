-- How handing products to a taker ends.
use Rattle.std.specs.Prelude.{◌≡◌, Option, Some, None}
use Rattle.ldm_gather.specs.declared.each_end.EachEnd.{EachEnd}
use Rattle.ldm_gather.specs.declared.each_end.EachEnd.TheVariants.{NotMade, Unreached, Received, Enough, Stopped}
use Rattle.ldm_gather.specs.declared.end.GatherEnd.{GatherEnd}
use Rattle.ldm_gather.specs.declared.end.GatherEnd.TheVariants as gather_end
use Rattle.ldm_gather.specs.declared.taker.EachStop.{EachStop}

-- a fact where the handler stopped
abbrev pub IfStopped : Option GatherEnd → Type 0 → Type 0
IfStopped None P = Unit {0}
IfStopped (Some (gather_end.Received end)) P = Unit {0}
IfStopped (Some gather_end.Enough) P = Unit {0}
IfStopped (Some gather_end.Stopped) P = P

-- how it ends, by how the gathering ended, if a link was connected, and why the handler stopped
abbrev pub IsEndOf : EachEnd → Option GatherEnd → Option EachStop → Type 0
IsEndOf Unreached gathered why = gathered ≡ None
IsEndOf (Received end) gathered why = gathered ≡ Some (gather_end.Received end)
IsEndOf Enough gathered why = gathered ≡ Some gather_end.Enough
IsEndOf (Stopped stop) gathered why = (gathered ≡ Some gather_end.Stopped) × (why ≡ Some stop)
IsEndOf (NotMade fault) gathered why = ⊥
