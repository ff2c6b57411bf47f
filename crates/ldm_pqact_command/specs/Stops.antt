-- Why acting on products stopped, as an end of it.
use Rattle.std.specs.Prelude.{◌≡◌, Option, Some, None}
use Rattle.ldm_pqact.specs.declared.end.ActEnd.{ActEnd}
use Rattle.ldm_pqact.specs.declared.end.ActEnd.TheVariants as end
use Rattle.ldm_pqact_command.specs.declared.stop.ActStop.{ActStop}
use Rattle.ldm_pqact_command.specs.declared.stop.ActStop.TheVariants.{StoreFault, LaunchFault, LogFault, Worn, OutOfMemory}

abbrev pub end_of : ActStop → ActEnd
end_of StoreFault = end.StoreFault
end_of LaunchFault = end.LaunchFault
end_of LogFault = end.LogFault
end_of Worn = end.Worn
end_of OutOfMemory = end.OutOfMemory

-- it came to the end of the queue, or stopped for that reason
abbrev pub IsStopOf : Option ActStop → ActEnd → Type 0
IsStopOf None ended = ended ≡ end.Stopped
IsStopOf (Some why) ended = ended ≡ end_of why
