use Rattle.std.proofs.Common.{rules, refl}
use Rattle.ldm_outside_memory.proofs.mem_door.MemDoorDoor.accept.Goals as goal

pub returns-in-Some-clause-planned : goal.returns-in-Some-clause-planned
returns-in-Some-clause-planned c = (search rules, (c.in-Some.peer, search rules, refl, search rules), search rules)
