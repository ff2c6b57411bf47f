use Rattle.std.proofs.Common.{◌≡◌, length, map}
use Rattle.ldm_watch.specs.FeedNames.{first_named}
use Rattle.ldm_watch.proofs.names.first_named.Given as goal

abbrev pub invariant-loop-rows : goal.invariant-loop-rows
invariant-loop-rows l =
    first_named (map (λ row. (row.0.now, row.1)) l.rows) l.set ≡ first_named (map (λ row. (row.0.now, row.1)) l.initial.rows) l.set

abbrev pub decreases-loop-rows : goal.decreases-loop-rows
decreases-loop-rows l = length l.rows
