use Rattle.std.proofs.Common.{◌≡◌, take}
use Rattle.ldm_exercise.specs.Kept.{HasPlayed}
use Rattle.ldm_exercise.specs.Orders.{openings}
use Rattle.ldm_exercise.specs.Playing.{nothing_played, played_on}
use Rattle.ldm_exercise.proofs.playing.play_openings.Given as goal

abbrev pub invariant-loop-a : goal.invariant-loop-a
invariant-loop-a l = record {
  counted : l.player.answers.tally.replies ≡ l.a;
  played : HasPlayed l.player (played_on nothing_played (take l.a openings));
}
