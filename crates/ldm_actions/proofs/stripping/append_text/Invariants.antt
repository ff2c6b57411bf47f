use Rattle.std.proofs.Common.{length}
use Rattle.ldm_actions.proofs.TextFronts.{AppendsBefore}
use Rattle.ldm_actions.proofs.stripping.append_text.Given as goal

abbrev pub invariant-loop-rest : goal.invariant-loop-rest
invariant-loop-rest g l = AppendsBefore l.file l.initial.rest l.rest (g.F.Store.tells l.initial.store) (g.F.Store.tells l.store)

abbrev pub decreases-loop-rest : goal.decreases-loop-rest
decreases-loop-rest g l = length l.rest
