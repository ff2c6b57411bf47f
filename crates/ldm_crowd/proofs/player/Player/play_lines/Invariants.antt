use Rattle.std.proofs.Common.{◌≤◌}
use Rattle.ldm_outside.specs.Gate.{HasCalls}
use Rattle.ldm_shared.specs.Passes.{IsSamePass}
use Rattle.ldm_crowd.specs.OrdersView.{asked_lines}
use Rattle.ldm_crowd.specs.Parts.{passings}
use Rattle.ldm_crowd.specs.Players.{HasPlayed}
use Rattle.ldm_crowd.proofs.player.Player.play_lines.Given as goal

abbrev pub invariant-loop-i : goal.invariant-loop-i
invariant-loop-i g l = record {
  same : IsSamePass l.fn.pass l.pass;
  played : HasPlayed (asked_lines l.lines) l.i l.pass l.self.last l.self.answers.items;
  asked : HasCalls (passings l.pass.actor l.i) (g.G.Gate.tells l.fn.self.gate) (g.G.Gate.tells l.self.gate);
  stops_kept : (g.G.Gate.tells l.fn.self.gate).stops ≤ (g.G.Gate.tells l.self.gate).stops;
}
