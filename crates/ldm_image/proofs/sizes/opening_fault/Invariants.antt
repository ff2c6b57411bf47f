use Rattle.std.proofs.Common.{length, ◌≡◌, ◌≤◌, ◌-◌, take}
use Rattle.ldm_image.specs.Image.{opening}
use Rattle.ldm_image.proofs.sizes.opening_fault.Given as goal

abbrev pub invariant-loop-i : goal.invariant-loop-i
invariant-loop-i l = (l.i ≤ 8) × (l.i ≤ length l.head) × (take l.i l.head ≡ take l.i (opening 1))

abbrev pub decreases-loop-i : goal.decreases-loop-i
decreases-loop-i l = 8 - l.i
