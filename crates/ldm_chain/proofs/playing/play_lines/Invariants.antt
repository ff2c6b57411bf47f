use Rattle.std.proofs.Common.{◌+◌, ◌≤◌, length}
use Rattle.ldm_script.specs.Resolve.{Playing}
use Rattle.ldm_play.specs.PlayerView.{StandsForPlay}
use Rattle.ldm_chain.proofs.PlayedLemmas.{PlayedTo}
use Rattle.ldm_chain.proofs.playing.play_lines.Given as goal

abbrev pub invariant-loop-at : goal.invariant-loop-at
invariant-loop-at l = record {
  number : l.number + length l.rest ≤ 1 + length l.text;
  played : (p : Playing) → StandsForPlay (record { book = l.fn.book; last = l.fn.last }) p
      → PlayedTo p l.text l.number l.rest (record { book = l.book; last = l.last });
}

abbrev pub decreases-loop-at : goal.decreases-loop-at
decreases-loop-at l = length l.rest
