-- A fault of making a queue as a fault of restoring one.
use Rattle.ldm_book.specs.declared.fault.CreateFault.{CreateFault}
use Rattle.ldm_book.specs.declared.fault.CreateFault.TheVariants as create
use Rattle.ldm_book.specs.declared.fault.RestoreFault.{RestoreFault}
use Rattle.ldm_book.specs.declared.fault.RestoreFault.TheVariants as restore

abbrev pub restore_fault : CreateFault → RestoreFault
restore_fault (create.BadArena arena) = restore.BadArena arena
restore_fault (create.BadSlots slots) = restore.BadSlots slots
restore_fault create.OutOfMemory = restore.OutOfMemory
