use Rattle.std.proofs.Common.{rules}
use Rattle.ldm_disk_memory.proofs.mem_site.MemSiteDesks.desk.Goals as goal

pub returns-in-Some-clause-planned : goal.returns-in-Some-clause-planned
returns-in-Some-clause-planned c = ((c.in-Some.script, search rules, search rules), search rules)
