use Rattle.std.proofs.Common.{rules}
use Rattle.ldm_outside_memory.proofs.mem_dial.MemDialDial.connect.Goals as goal

pub returns-in-Some-clause-planned : goal.returns-in-Some-clause-planned
returns-in-Some-clause-planned c = (search rules, (c.in-Some.script, search rules, search rules), search rules)
