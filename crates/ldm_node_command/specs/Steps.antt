-- The steps of a node, in their order.
use Rattle.std.specs.Prelude.{Option, Some, None}
use Rattle.ldm_node_command.specs.declared.progress.Step.{Step}
use Rattle.ldm_node_command.specs.declared.progress.Step.TheVariants.{Configuration, Queue, Restoring, Listening, Programs, Workers, Keeping, Waiting, Line}

-- the step before each
abbrev pub before : Step → Option Step
before Configuration = None
before Queue = Some Configuration
before Restoring = Some Queue
before Listening = Some Restoring
before Programs = Some Listening
before Workers = Some Programs
before Keeping = Some Workers
before Waiting = Some Keeping
before Line = Some Waiting
