-- The same of parts of a sending that also ask the gate and write the log: what they do, and how they break off.
use Rattle.std.specs.Prelude.{◌≡◌, ℕ, ◌≤◌, Bool, true, false, List, [], ◌++◌}
use Rattle.ldm_outside.specs.declared.gate.Go.{Go}
use Rattle.ldm_outside.specs.declared.gate.Go.TheVariants as go
use Rattle.ldm_outside.specs.Gate.{GateRecord}
use Rattle.ldm_outside.specs.Io.{SinkRecord, Takes, WritesFront}
use Rattle.ldm_session.specs.Exchange.{IdledAll}
use Rattle.ldm_session.specs.Gaps.{gap_log}
use Rattle.ldm_sender.specs.declared.end.SendEnd.{SendEnd}
use Rattle.ldm_sender.specs.declared.end.SendEnd.TheVariants as end
use Rattle.ldm_sender.specs.Calls.{MayBeUnmade}
use Rattle.ldm_sender.specs.Deeds.{Deed, and_then}
use Rattle.ldm_sender.specs.Does.{SendingMoment, Does, Breaks, IsAllBut}

-- What such a part finds or leaves.
pub record Situation : Type 0 where
  pub moment : SendingMoment
  pub log : SinkRecord
  pub gate : GateRecord

abbrev pub situation_of : SendingMoment → SinkRecord → GateRecord → Situation
situation_of moment log gate = record { moment = moment; log = log; gate = gate }

-- a deed, and what the gate answered
pub record Act : Type 0 where
  pub deed : Deed
  pub goes : List Go

abbrev pub then_act : Act → Act → Act
then_act first second = record { deed = and_then first.deed second.deed; goes = first.goes ++ second.goes }

-- a deed that asks no gate
abbrev pub ungated : Deed → Act
ungated deed = record { deed = deed; goes = [] }

-- bytes are owed, and clock and gate answer this
abbrev pub idling : List ℕ → List ℕ → List Go → Act
idling bytes instants goes = record { deed = record { entries = []; bytes = bytes; instants = instants }; goes = goes }

-- neither count fell
pub record KeepsBeside (old new : Situation) : Type 0 where
  pub log : old.log.faults ≤ new.log.faults
  pub stops : old.gate.stops ≤ new.gate.stops

-- Just this was done. The log has a line for each loss that the calls were told.
pub record Acts (host given : List ℕ) (old new : Situation) (act : Act) : Type 0 where
  pub does : Does given old.moment new.moment act.deed
  pub logged : Takes old.log (gap_log host act.deed.entries) new.log
  pub idled : IdledAll act.goes old.gate new.gate
  pub beside : KeepsBeside old new

-- The lines of losses are all in the log; or a front of them, where the log failed or the queue has had all its calls.
abbrev pub Logged : SendEnd → SinkRecord → List ℕ → SinkRecord → Type 0
Logged end.LogFault old lines new = WritesFront old lines new
Logged end.Worn old lines new = WritesFront old lines new
Logged _ old lines new = Takes old lines new

-- the gate says to stop
abbrev pub IsStop : Go → Type 0
IsStop answer = answer ≡ go.Stop

-- It broke off: of each part a front was done. Each step of the cursor was made, and the gate was asked wherever it
-- says to go on.
pub record BreaksAct (why : SendEnd) (host given : List ℕ) (old new : Situation) (act : Act) : Type 0 where
  pub breaks : Breaks given old.moment new.moment act.deed
  pub unmade : IsAllBut false MayBeUnmade breaks.called act.deed.entries
  pub logged : Logged why old.log (gap_log host breaks.called) new.log
  pub goes : List Go
  pub idled : IdledAll goes old.gate new.gate
  pub goes_part : IsAllBut false IsStop goes act.goes
  pub beside : KeepsBeside old new

-- ends at which all is done that there was to do
abbrev pub is_whole : SendEnd → Bool
is_whole end.Stopped = true
is_whole end.Reclassed = true
is_whole (end.Denied rule) = true
is_whole (end.PeerEnd at) = true
is_whole (end.BadReply at) = true
is_whole end.AllBusy = true
is_whole end.LinkFault = false
is_whole end.LogFault = false
is_whole end.Worn = false
is_whole end.OutOfMemory = false

-- nothing is gathered still at an end at which all is done
abbrev pub IsAllSent : Bool → List ℕ → Type 0
IsAllSent true out = out ≡ []
IsAllSent false out = Unit {0}

-- all of it was done, or it broke off
abbrev pub EndsAct : Bool → SendEnd → (host given : List ℕ) → (old new : Situation) → Act → Type 0
EndsAct true why host given old new act = Acts host given old new act
EndsAct false why host given old new act = BreaksAct why host given old new act
