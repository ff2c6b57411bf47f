use Rattle.std.proofs.Common.{◌+◌, ◌≤◌, List, length}
use Rattle.ldm_script.specs.Order.{Order}
use Rattle.ldm_crowd.specs.OrdersView.{AreDealt}
use Rattle.ldm_crowd.proofs.Dealing.{IsReadTo}
use Rattle.ldm_crowd.proofs.orders.deal_all.Given as goal

abbrev pub invariant-loop-at : goal.invariant-loop-at
invariant-loop-at l = record {
  number : l.number + length l.rest ≤ 1 + length l.text;
  front : (done : List Order) × AreDealt l.actors done l.parts × IsReadTo l.actors l.text done l.number l.rest;
}

abbrev pub decreases-loop-at : goal.decreases-loop-at
decreases-loop-at l = length l.rest
