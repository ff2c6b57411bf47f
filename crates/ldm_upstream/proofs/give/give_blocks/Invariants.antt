use Rattle.std.proofs.Common.{◌≡◌, ◌≤◌, ◌-◌, ℕ, List}
use Rattle.ldm_outside.specs.Link.{IsNotClosed}
use Rattle.ldm_shared.specs.Passes.{IsSamePass}
use Rattle.ldm_shared.specs.Reader.{Holds}
use Rattle.ldm_sender.specs.Does.{moment_of}
use Rattle.ldm_upstream.specs.Giving.{given_of}
use Rattle.ldm_upstream.proofs.Sending.{HasGiven}
use Rattle.ldm_upstream.proofs.give.give_blocks.Given as goal

abbrev pub invariant-loop-at : goal.invariant-loop-at
invariant-loop-at g l = record {
  size_is : l.size ≡ l.lent.held.now.info.size;
  within : l.at ≤ l.size;
  counted : l.number ≤ l.at;
  kept : IsSamePass l.initial.pass l.pass;
  not_closed : IsNotClosed (g.K.Link.tells l.link);
  holds : (body : List ℕ) → Holds l.initial.pass l.lent.reader.k l.lent.held.now body
      → Holds l.pass l.lent.reader.k l.lent.held.now body;
  gave : (body : List ℕ) → Holds l.initial.pass l.lent.reader.k l.lent.held.now body →
      HasGiven l.lent.reader.k (given_of l.lent.held.now body) l.initial.standing l.standing
      (moment_of l.initial.pass (g.K.Link.tells l.initial.link) (g.C.Clock.tells l.initial.clock) l.initial.out.items)
      (moment_of l.pass (g.K.Link.tells l.link) (g.C.Clock.tells l.clock) l.out.items) l.number l.at;
}

abbrev pub decreases-loop-at : goal.decreases-loop-at
decreases-loop-at g l = l.size - l.at
