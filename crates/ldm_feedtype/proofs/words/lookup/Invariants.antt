use Rattle.std.proofs.Common.{◌≡◌, length, map}
use Rattle.ldm_feedtype.specs.Words.{lookup}
use Rattle.ldm_feedtype.proofs.words.lookup.Given as goal

abbrev pub invariant-loop-rows : goal.invariant-loop-rows
invariant-loop-rows l =
    lookup (map (λ row. (row.0.now, row.1)) l.rows) l.word ≡ lookup (map (λ row. (row.0.now, row.1)) l.initial.rows) l.word

abbrev pub decreases-loop-rows : goal.decreases-loop-rows
decreases-loop-rows l = length l.rows
