use Rattle.std.proofs.Common.{◌≡◌, ◌∙◌, sym, ap, subst, arith}
use Rattle.ldm_script.specs.Order.{Order}
use Rattle.ldm_exercise.specs.Kept.{HasPlayed}
use Rattle.ldm_exercise.specs.Orders.{AllDrawn, order_drawn, orders_drawn}
use Rattle.ldm_exercise.specs.OrderView.{order_of}
use Rattle.ldm_exercise.specs.Playing.{Exercised, and_played, played_on}
use Rattle.ldm_exercise.proofs.PlayedLemmas.{orders_drawn-more, played_on-more}
use Rattle.ldm_exercise.proofs.playing.play_drawn.Goals as goal

pub loop-i-preserved : goal.loop-i-preserved
loop-i-preserved c =
    let number = c.args.number in
    let i = c.loop-i.i in
    let before = orders_drawn number i in
    let more = orders_drawn-more number i in
    let next = order_drawn i before.state in
    let is : order_of c.draw_order-order.result ≡ next.order = c.draw_order-order.ensures.order ∙ ap (λ x. (order_drawn i x).order) c.loop-i.invariant.draws in
    record {
      counted = omega (arith, c.play.ensures.counted, c.loop-i.invariant.counted);
      draws = c.draw_order-order.ensures.state ∙ ap (λ x. (order_drawn i x).state) c.loop-i.invariant.draws ∙ sym (ap (λ (all : AllDrawn). all.state) more);
      played = λ e has.
          let all = played_on e before.orders in
          let done : HasPlayed c.play.new.self (and_played all next.order) =
          subst (λ (o : Order). HasPlayed c.play.new.self (and_played all o)) is (c.play.ensures.played all (c.loop-i.invariant.played e has)) in
          subst (λ (x : Exercised). HasPlayed c.play.new.self x)
          (sym (played_on-more e before.orders next.order) ∙ sym (ap (λ (drawn : AllDrawn). played_on e drawn.orders) more)) done;
    }
