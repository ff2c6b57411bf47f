use Rattle.std.proofs.Common.{◌≡◌, true, take}
use Rattle.ldm_disk_memory.specs.MemDisk.{leaves, settled}
use Rattle.ldm_disk_memory.specs.Pending.{after_changes}
use Rattle.ldm_disk_memory.proofs.mem_file.MemFile.crash.Given as goal

-- what is left so far is what a crash might have left after the changes so far
abbrev pub invariant-loop-change : goal.invariant-loop-change
invariant-loop-change l = leaves (after_changes (settled l.initial.left.items) (take l.change-index l.change-items)) l.left.items ≡ true
