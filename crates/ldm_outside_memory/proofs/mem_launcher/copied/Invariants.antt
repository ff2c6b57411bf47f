use Rattle.std.proofs.Common.{◌≡◌, take}
use Rattle.ldm_outside.specs.Launcher.{spelled}
use Rattle.ldm_outside_memory.proofs.mem_launcher.copied.Given as goal

abbrev pub invariant-loop-word : goal.invariant-loop-word
invariant-loop-word l = spelled l.copies.items ≡ spelled (take l.word-index l.words)
