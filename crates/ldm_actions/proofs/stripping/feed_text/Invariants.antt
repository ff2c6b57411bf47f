use Rattle.std.proofs.Common.{length}
use Rattle.ldm_actions.proofs.TextFronts.{FeedsBefore}
use Rattle.ldm_actions.proofs.stripping.feed_text.Given as goal

abbrev pub invariant-loop-rest : goal.invariant-loop-rest
invariant-loop-rest g l = FeedsBefore l.child l.initial.rest l.rest (g.L.Launcher.tells l.initial.launcher) (g.L.Launcher.tells l.launcher)

abbrev pub decreases-loop-rest : goal.decreases-loop-rest
decreases-loop-rest g l = length l.rest
