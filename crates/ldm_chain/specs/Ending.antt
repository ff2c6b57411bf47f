-- How a receiver ended, by what a push answered; and how a chain ended, by how a feeder and a receiver did.
use Rattle.std.specs.Prelude.{Option, Some, None}
use Rattle.ldm_intake.specs.declared.end.RecvEnd.{RecvEnd}
use Rattle.ldm_intake.specs.declared.end.RecvEnd.TheVariants.{OutOfMemory}
use Rattle.ldm_sender.specs.declared.end.SendEnd.{SendEnd}
use Rattle.ldm_sender.specs.declared.end.SendEnd.TheVariants as end
use Rattle.ldm_downstream.specs.declared.receiver.Pushed.{Pushed}
use Rattle.ldm_chain.specs.declared.node.ChainEnd.{ChainEnd}
use Rattle.ldm_chain.specs.declared.node.ChainEnd.TheVariants as chain_end
use Rattle.ldm_chain.specs.declared.node.Break.{Break}
use Rattle.ldm_chain.specs.declared.node.Break.TheVariants as broken
use Rattle.ldm_downstream.specs.declared.receiver.Pushed.TheVariants as pushed

abbrev pub end_pushed : Pushed → Option RecvEnd
end_pushed pushed.On = None
end_pushed (pushed.Over end) = Some end
end_pushed pushed.OutOfMemory = Some OutOfMemory

abbrev pub end_by : Break → ChainEnd
end_by (broken.Feed end) = chain_end.Feed end
end_by (broken.Receive end) = chain_end.Receive end
end_by broken.OutOfMemory = chain_end.OutOfMemory

-- how a feeding ends a chain, if it does
abbrev pub ended_by : SendEnd → Option Break
ended_by end.Stopped = None
ended_by why = Some (broken.Feed why)

-- A mirror fails where its receiver is over or where it has no room for more, and nothing else of what a feeding is lent within one process
-- fails. So where the receiver goes on it is the room that was wanting.
abbrev pub broken_off : SendEnd → Break
broken_off end.LinkFault = broken.OutOfMemory
broken_off why = broken.Feed why

abbrev pub by_feeder : Option Break → Option Break
by_feeder None = None
by_feeder (Some (broken.Feed why)) = Some (broken_off why)
by_feeder (Some (broken.Receive over)) = Some (broken.Receive over)
by_feeder (Some broken.OutOfMemory) = Some broken.OutOfMemory

-- How a node's feeding ends a chain, if it does: by the receiver, if that is over, however its feeder ended; else by the feeder.
abbrev pub by_receiver : Option RecvEnd → Option Break → Option Break
by_receiver None fed = by_feeder fed
by_receiver (Some OutOfMemory) fed = Some broken.OutOfMemory
by_receiver (Some over) fed = Some (broken.Receive over)
