-- What a handler changes, and what a gathering is lent.
use Rattle.std.specs.Prelude.{◌≤◌}
use Rattle.ldm_outside.specs.Clock.{ClockRecord}
use Rattle.ldm_outside.specs.Io.{SinkRecord}
use Rattle.ldm_outside.specs.Link.{LinkRecord}
use Rattle.ldm_shared.specs.Passes.{PassView}
use Rattle.ldm_downstream.specs.ReceiverView.{ReceiverView}
use Rattle.ldm_gather.specs.declared.end.Handled.{Handled}
use Rattle.ldm_gather.specs.declared.end.Handled.TheVariants.{On, Enough, Stopped}

-- The handler, what it is lent, the pass, and the log.
pub record Scene (W A B : Type 0) : Type 0 where
  pub handler : W
  pub first : A
  pub second : B
  pub pass : PassView
  pub log : SinkRecord

abbrev pub scene_of : {W A B : Type 0} → W → A → B → PassView → SinkRecord → Scene W A B
scene_of handler first second pass log = record { handler = handler; first = first; second = second; pass = pass; log = log }

-- a fact where the handler goes on
abbrev pub IfOn : Handled → Type 0 → Type 0
IfOn On P = P
IfOn Enough P = Unit {0}
IfOn Stopped P = Unit {0}

-- What a gathering is lent: what its handler changes, the link and the clock.
pub record Lent (W A B : Type 0) : Type 0 where
  pub scene : Scene W A B
  pub link : LinkRecord
  pub clock : ClockRecord

abbrev pub lent_of : {W A B : Type 0} → Scene W A B → LinkRecord → ClockRecord → Lent W A B
lent_of scene link clock = record { scene = scene; link = link; clock = clock }

-- A moment of a gathering: what it is lent, and its receiver.
pub record GatherMoment (W A B : Type 0) : Type 0 where
  pub receiver : ReceiverView
  pub scene : Scene W A B
  pub link : LinkRecord
  pub clock : ClockRecord

abbrev pub moment_of : {W A B : Type 0} → ReceiverView → Lent W A B → GatherMoment W A B
moment_of receiver lent = record { receiver = receiver; scene = lent.scene; link = lent.link; clock = lent.clock }

-- No count fell.
pub record KeepsGatherCounts {W A B : Type 0} (old new : Lent W A B) : Type 0 where
  pub link : old.link.faults ≤ new.link.faults
  pub ends : old.link.ends ≤ new.link.ends
  pub log : old.scene.log.faults ≤ new.scene.log.faults
