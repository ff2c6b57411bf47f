use Rattle.std.proofs.Common.{◌≡◌, ◌∙◌, ◌<◌, ℕ, length, ap, sym, subst, arith}
use Rattle.std.proofs.lemmas.List.{length-map}
use Rattle.std.proofs.lemmas.Result.{err_from_is_err_and}
use Rattle.ldm_outside.specs.Gate.{HasCalls}
use Rattle.ldm_script.specs.OrderView.{asked_of, act_with}
use Rattle.ldm_shared.specs.Passes.{PassView}
use Rattle.ldm_crowd.specs.OrdersView.{asked_in, asked_lines}
use Rattle.ldm_crowd.specs.Parts.{passings}
use Rattle.ldm_crowd.proofs.Fronts.{asked_on, plays_on, fails_on}
use Rattle.ldm_crowd.proofs.player.Player.play_lines.Goals as goal

pub loop-i-preserved : goal.loop-i-preserved
loop-i-preserved g c =
    let lines = asked_lines c.args.lines.now in
    let inv = c.loop-i.invariant in
    let old = c.loop-i.pass in
    let new = c.play_line.new.pass in
    let line = c.in_ok-play_line.ensures.played in
    let less : c.loop-i.i < length lines = omega (arith, c.loop-i-test.true, c.len-i-end.ensures, length-map c.args.lines.now.lines (λ l. asked_in c.args.lines.now.actors l)) in
    let actor_is : old.actor ≡ new.actor = sym (ap (λ (p : PassView). p.actor) c.play_line.ensures.same) in
    let first = g.G.Gate.tells c.args.self.now.gate in
    let mid = g.G.Gate.tells c.loop-i.self.gate in
    let asked : HasCalls (passings new.actor c.loop-i.i) first mid = subst (λ (a : ℕ). HasCalls (passings a c.loop-i.i) first mid) actor_is inv.asked in
    record {
      same = c.play_line.ensures.same ∙ ap (λ (p : PassView). record p { seen = new.seen }) inv.same;
      played = plays_on g.G.Gate.tells lines c.loop-i.i c.loop-i.i less (asked_of (act_with c.act-act.new.info c.act-act.result)) c.act-act.ensures.asked old c.loop-i.self new c.play_line.new.self inv.played c.play_line.ensures.same line;
      asked = asked_on new.actor old.actor c.loop-i.i first mid (g.G.Gate.tells c.play_line.new.self.gate) actor_is asked line.passed;
      stops_kept = omega (arith, inv.stops_kept, c.play_line.ensures.stops_kept);
    }

pub returns-in_err-play_line-clause-ended : goal.returns-in_err-play_line-clause-ended
returns-in_err-play_line-clause-ended g c =
    let lines = asked_lines c.args.lines.now in
    let inv = c.loop-i.invariant in
    let why = err_from_is_err_and c.from_residual.result c.from_residual.ensures.1 in
    rw (why.1, why.2)
    (fails_on g.G.Gate.tells lines c.loop-i.i (g.G.Gate.tells c.args.self.now.gate) c.loop-i.pass c.loop-i.self c.play_line.new.pass c.play_line.new.self
    inv.stops_kept inv.played inv.asked c.play_line.ensures.same c.in_err-play_line.ensures.unanswered c.in_err-play_line.field-0.0 c.in_err-play_line.ensures.failed)
