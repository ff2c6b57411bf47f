-- What `act` comes to: a cursor is opened, entries act on its products, and outputs and cursor are closed.
use Rattle.std.specs.Prelude.{◌≡◌, ℕ, ◌≤◌, ◌⊎◌, List, [], ◌∷◌, ◌++◌, length}
use Rattle.std.specs.List.{flat_map}
use Rattle.ldm_model.specs.declared.event.Event.{Event}
use Rattle.ldm_model.specs.declared.event.Event.TheVariants as event
use Rattle.ldm_model.specs.declared.event.Reply.{Reply}
use Rattle.ldm_model.specs.declared.event.Reply.TheVariants as reply
use Rattle.ldm_model.specs.declared.event.Start.TheVariants as start
use Rattle.ldm_model.specs.declared.event.Entry.{Entry}
use Rattle.ldm_outside.specs.Count.{Rose}
use Rattle.ldm_outside.specs.Gate.{GateRecord}
use Rattle.ldm_outside.specs.Io.{SinkRecord, Takes}
use Rattle.ldm_outside.specs.Launcher.{LauncherRecord}
use Rattle.ldm_outside.specs.Store.{StoreRecord}
use Rattle.ldm_shared.specs.declared.steps.TheConstants.{MOST_TURNS}
use Rattle.ldm_shared.specs.Passes.{PassView, Calls}
use Rattle.ldm_session.specs.Exchange.{IdledAll}
use Rattle.ldm_pqact_conf.specs.Entries.{EntryView}
use Rattle.ldm_actions.specs.declared.answers.Done.{Done}
use Rattle.ldm_actions.specs.declared.answers.Done.TheVariants as done
use Rattle.ldm_actions.specs.Effects.{Action, closed, effects}
use Rattle.ldm_actions.specs.Outputs.{Closes, OutputsView, Standing, no_outputs, standing}
use Rattle.ldm_actions.specs.World.{World}
use Rattle.ldm_pqact.specs.declared.end.ActEnd.{ActEnd}
use Rattle.ldm_pqact.specs.declared.end.ActEnd.TheVariants as end
use Rattle.ldm_pqact.specs.declared.limits.TheConstants.{EVERY_FEEDTYPE}
use Rattle.ldm_pqact.specs.Acting.{IsInHand, LogCount, LogsFront}
use Rattle.ldm_pqact.specs.Carried.{Carries, world_in}
use Rattle.ldm_pqact.specs.Course.{Course, course_work, goes_of, turns_of}
use Rattle.ldm_shared.specs.Givens.{products_of}
use Rattle.ldm_shared.specs.Uses.{AreRows, AreUses, step_answers}
use Rattle.ldm_pqact.specs.Work.{Parted, replies_of}

-- The pass, and what all that is lent tells.
pub record Situation : Type 0 where
  pub pass : PassView
  pub store : StoreRecord
  pub launcher : LauncherRecord
  pub log : SinkRecord
  pub gate : GateRecord

abbrev pub situation_of : PassView → StoreRecord → LauncherRecord → SinkRecord → GateRecord → Situation
situation_of pass store launcher log gate = record { pass = pass; store = store; launcher = launcher; log = log; gate = gate }

-- ---- the calls on the queue

-- a cursor for all feedtypes, from the oldest product on
abbrev pub opening : Event
opening = event.OpenCursor (record { 0 = EVERY_FEEDTYPE }) start.Oldest

abbrev pub opening_call : ℕ → Reply → Entry
opening_call actor answer = record { actor = actor; event = opening; reply = answer }

-- the call that closes it; a queue that has had all its calls takes none
abbrev pub closing_calls : ActEnd → ℕ → ℕ → List Entry
closing_calls end.Worn actor k = []
closing_calls _ actor k = record { actor = actor; event = event.Close k; reply = reply.Closed } ∷ []

-- Just these calls were made with the pass: the cursor was opened, used and closed, and its steps were answered so.
pub record UsesOpened (why : ActEnd) (k : ℕ) (old new : PassView) (answers : List Reply) : Type 0 where
  pub called : List Entry
  pub calls : Calls old new (opening_call old.actor (reply.Opened k) ∷ (called ++ closing_calls why old.actor k))
  pub are_uses : AreUses k called
  pub answered : step_answers called ≡ answers

-- ---- how it ends

-- by how acting on products ended, and what the closing of the outputs answered
abbrev pub end_after : ActEnd → Done → ActEnd
end_after end.Stopped done.Ok = end.Stopped
end_after end.Stopped done.StoreFault = end.StoreFault
end_after end.Stopped done.LaunchFault = end.LaunchFault
end_after ended answer = ended

-- the queue may have had all its calls when the cursor was to be closed
abbrev pub IsEndAfter : ActEnd → ActEnd → Done → Type 0
IsEndAfter end.Worn ended answer = Unit {0}
IsEndAfter why ended answer = why ≡ end_after ended answer

-- Why: by counts, or the queue has had all its calls. Want of memory may come at any time.
abbrev pub ActCause : ActEnd → Situation → Situation → Type 0
ActCause end.Stopped old new = Rose old.gate.stops new.gate.stops
ActCause end.StoreFault old new = Rose old.store.faults new.store.faults
ActCause end.LaunchFault old new = Rose old.launcher.faults new.launcher.faults
ActCause end.LogFault old new = Rose old.log.faults new.log.faults
ActCause end.AllBusy old new = ⊥
ActCause end.Worn old new = length new.pass.seen ≡ MOST_TURNS
ActCause end.OutOfMemory old new = Unit {0}

-- ---- what stands

-- Actions were carried out or broken off by outputs that kept nothing at first, and then these were closed.
pub record CarriesAndCloses (ended : ActEnd) (answer : Done) (work : Parted) (old new : Situation) : Type 0 where
  pub mid : Standing
  pub carried : Carries ended work.whole.deeds work.in_hand.deeds (standing no_outputs old.store old.launcher) mid
  pub left : OutputsView
  pub closes : Closes answer mid (standing left new.store new.launcher)

-- files and children, and nothing runs under PIPE
abbrev pub world_at : Situation → World
world_at now = world_in (standing no_outputs now.store now.launcher)

-- at `Stopped`: what all actions make of what stood before, with all of it closed
abbrev pub StandsAt : ActEnd → List (Action × List ℕ) → Situation → Situation → Type 0
StandsAt end.Stopped deeds old new = world_at new ≡ closed (effects deeds (world_at old))
StandsAt _ deeds old new = Unit {0}

-- the log has all lines; or all of the turns that are whole, and a front of those of the turn in hand
abbrev pub LogsBy : ActEnd → Parted → SinkRecord → SinkRecord → Type 0
LogsBy end.Stopped work old new = Takes old work.whole.lines new
LogsBy _ work old new = LogsFront work.whole.lines work.in_hand.lines old new

-- ---- all of it

-- A cursor was opened, entries acted on its products up to an end, and outputs and cursor were closed.
pub record ActsOpened (why : ActEnd) (entries : List EntryView) (old new : Situation) : Type 0 where
  -- the place of the cursor
  pub k : ℕ
  pub course : Course
  -- how acting on products ended, and what the closing of the outputs answered
  pub ended : ActEnd
  pub answer : Done
  pub is_end : IsEndAfter why ended answer
  pub cause : ActCause why old new
  -- at most one turn is in hand where it broke off
  pub is_in_hand : IsInHand ended course.run.in_hand
  -- the queue
  pub uses : UsesOpened why k old.pass new.pass (replies_of (course_work ended entries course))
  pub rows : AreRows new.pass (products_of (turns_of course))
  -- files and programs
  pub carries : CarriesAndCloses ended answer (course_work ended entries course) old new
  pub stands : StandsAt why (course_work ended entries course).whole.deeds old new
  -- the log and the gate
  pub logged : LogsBy ended (course_work ended entries course) old.log new.log
  pub log_count : LogCount ended old.log new.log
  pub idled : IdledAll (goes_of ended course) old.gate new.gate

-- why no cursor was opened: all were taken, as the queue answered; it has had all its calls; or there was no memory to begin
abbrev pub OpensNo : ActEnd → PassView → PassView → Type 0
OpensNo end.AllBusy old new = Calls old new (opening_call old.actor reply.AllBusy ∷ [])
OpensNo end.Worn old new = Calls old new [] × (length new.seen ≡ MOST_TURNS)
OpensNo end.OutOfMemory old new = new ≡ old
OpensNo _ old new = ⊥

-- No cursor was opened, and nothing else was touched.
pub record ActsOnNone (why : ActEnd) (old new : Situation) : Type 0 where
  pub opens : OpensNo why old.pass new.pass
  pub others : new ≡ record old { pass = new.pass }

abbrev pub Acts : ActEnd → List EntryView → Situation → Situation → Type 0
Acts why entries old new = ActsOpened why entries old new ⊎ ActsOnNone why old new

-- no count fell
pub record KeepsActCounts (old new : Situation) : Type 0 where
  pub store : old.store.faults ≤ new.store.faults
  pub launcher : old.launcher.faults ≤ new.launcher.faults
  pub log : old.log.faults ≤ new.log.faults
  pub gate : old.gate.stops ≤ new.gate.stops
