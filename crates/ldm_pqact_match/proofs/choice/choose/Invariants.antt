use Rattle.std.proofs.Common.{◌≡◌, ◌++◌, take, drop}
use Rattle.ldm_pqact_match.specs.Matching.{any_matches}
use Rattle.ldm_pqact_match.specs.Choice.{chosen_behind, choose_of}
use Rattle.ldm_pqact_match.proofs.choice.choose.Given as goal

abbrev pub invariant-loop-place : goal.invariant-loop-place
invariant-loop-place l =
    (l.chosen.items ++ chosen_behind (take l.place l.all) l.info l.fn.time (drop l.place l.all) ≡ choose_of l.all l.info l.fn.time)
    × (l.matched ≡ any_matches l.info (take l.place l.all))
