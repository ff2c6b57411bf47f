use Rattle.std.proofs.Common.{◌≡◌, ◌∙◌, List, sym, ap, subst, take, arith}
use Rattle.ldm_script.specs.Order.{Order}
use Rattle.ldm_exercise.specs.Kept.{HasPlayed}
use Rattle.ldm_exercise.specs.Orders.{opening, openings}
use Rattle.ldm_exercise.specs.OrderView.{order_of}
use Rattle.ldm_exercise.specs.Playing.{Exercised, and_played, nothing_played, played_on}
use Rattle.ldm_exercise.proofs.PlayedLemmas.{take-opening, played_on-more}
use Rattle.ldm_exercise.proofs.playing.play_openings.Goals as goal

pub loop-a-preserved : goal.loop-a-preserved
loop-a-preserved c =
    let a = c.loop-a.a in
    let all = played_on nothing_played (take a openings) in
    let is : order_of c.open_order.result ≡ opening a = c.open_order.ensures ∙ ap opening c.in-Some.ensures.1 in
    let done : HasPlayed c.play.new.self (and_played all (opening a)) =
    subst (λ (o : Order). HasPlayed c.play.new.self (and_played all o)) is (c.play.ensures.played all c.loop-a.invariant.played) in
    record {
      counted = omega (arith, c.play.ensures.counted, c.loop-a.invariant.counted);
      played = subst (λ (x : Exercised). HasPlayed c.play.new.self x)
          (sym (played_on-more nothing_played (take a openings) (opening a)) ∙ sym (ap (λ (os : List Order). played_on nothing_played os) (take-opening a c.loop-a-test.true))) done;
    }
