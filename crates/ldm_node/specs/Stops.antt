-- Which of many stops is told.
use Rattle.std.specs.Prelude.{List, [], ◌∷◌}
use Rattle.ldm_node.specs.declared.stop.NodeStop.{NodeStop}
use Rattle.ldm_node.specs.declared.stop.NodeStop.TheVariants.{Done, NetFault, LogFault, Worn, OutOfMemory}

-- a stop, or the later one where this worker was done
abbrev pub or_stop : NodeStop → NodeStop → NodeStop
or_stop Done later = later
or_stop NetFault later = NetFault
or_stop LogFault later = LogFault
or_stop Worn later = Worn
or_stop OutOfMemory later = OutOfMemory

-- why the first worker stopped that was not done
abbrev pub first_stop : List NodeStop → NodeStop
first_stop [] = Done
first_stop (stop ∷ stops) = or_stop stop (first_stop stops)
