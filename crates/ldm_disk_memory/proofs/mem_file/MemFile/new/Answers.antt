use Rattle.ldm_disk_memory.proofs.MemFiles.{first_leaves}
use Rattle.ldm_disk_memory.proofs.mem_file.MemFile.new.Goals as goal

pub invariant_of-result : goal.invariant_of-result
invariant_of-result c = first_leaves c.args.bytes.items c.new.result.items c.new-2.result.items c.new-3.result.items c.new-2.ensures.items
