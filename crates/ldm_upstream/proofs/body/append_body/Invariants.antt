use Rattle.std.proofs.Common.{◌≡◌, ◌≤◌, ◌-◌, ℕ, List, []}
use Rattle.ldm_outside.specs.Clock.{ClockRecord}
use Rattle.ldm_outside.specs.Link.{IsNotClosed}
use Rattle.ldm_shared.specs.Passes.{IsSamePass}
use Rattle.ldm_shared.specs.Reader.{Holds}
use Rattle.ldm_upstream.specs.ProductDeeds.{reading_all}
use Rattle.ldm_sender.specs.Does.{moment_of}
use Rattle.ldm_sender.proofs.Doing.{Toward}
use Rattle.ldm_upstream.proofs.Reading.{reading_from}
use Rattle.ldm_upstream.proofs.body.append_body.Given as goal

abbrev pub invariant-loop-at : goal.invariant-loop-at
invariant-loop-at g l = record {
  size_is : l.size ≡ l.lent.held.now.info.size;
  within : l.at ≤ l.size;
  kept : IsSamePass l.initial.pass l.pass;
  not_closed : IsNotClosed (g.K.Link.tells l.link);
  holds : (body : List ℕ) → Holds l.initial.pass l.lent.reader.k l.lent.held.now body
      → Holds l.pass l.lent.reader.k l.lent.held.now body;
  read : (body : List ℕ) (clock : ClockRecord) → Holds l.initial.pass l.lent.reader.k l.lent.held.now body →
      Toward [] (moment_of l.initial.pass (g.K.Link.tells l.initial.link) clock l.initial.out.items)
      (moment_of l.pass (g.K.Link.tells l.link) clock l.out.items)
      (reading_from l.initial.pass.actor l.lent.reader.k body l.at)
      (reading_all l.initial.pass.actor l.lent.reader.k body);
}

abbrev pub decreases-loop-at : goal.decreases-loop-at
decreases-loop-at g l = l.size - l.at
