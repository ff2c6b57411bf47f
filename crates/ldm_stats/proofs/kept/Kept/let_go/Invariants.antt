use Rattle.std.proofs.Common.{◌≡◌, length}
use Rattle.ldm_stats.specs.Joining.{within}
use Rattle.ldm_stats.proofs.kept.Kept.let_go.Given as goal

abbrev pub invariant-loop-self : goal.invariant-loop-self
invariant-loop-self l = within l.window l.hour l.self ≡ within l.window l.hour l.initial.self

abbrev pub decreases-loop-self : goal.decreases-loop-self
decreases-loop-self l = length l.self
