-- What faults of the steps of a chain come to.
use Rattle.ldm_chain.specs.declared.playing.PlayFault.{PlayFault}
use Rattle.ldm_chain.specs.declared.playing.PlayFault.TheVariants as play
use Rattle.ldm_chain.specs.declared.fault.ChainFault.{ChainFault}
use Rattle.ldm_chain.specs.declared.fault.ChainFault.TheVariants as stop

abbrev pub unplayed : PlayFault → ChainFault
unplayed (play.BadLine line column) = stop.BadLine line column
unplayed play.OutOfMemory = stop.OutOfMemory
