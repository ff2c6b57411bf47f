use Rattle.std.proofs.Common.{◌≡◌, ◌+◌}
use Rattle.ldm_exercise.specs.Kept.{HasPlayed}
use Rattle.ldm_exercise.specs.Orders.{orders_drawn}
use Rattle.ldm_exercise.specs.Playing.{Exercised, played_on}
use Rattle.ldm_exercise.proofs.playing.play_drawn.Given as goal

abbrev pub invariant-loop-i : goal.invariant-loop-i
invariant-loop-i l = record {
  counted : l.player.answers.tally.replies ≡ 4 + l.i;
  draws : l.draws.state ≡ (orders_drawn l.number l.i).state;
  played : (e : Exercised) → HasPlayed l.initial.player e → HasPlayed l.player (played_on e (orders_drawn l.number l.i).orders);
}
