-- The worker behind those of the stations: it records what is inserted.
use Rattle.std.specs.Prelude.{◌≡◌, ◌⊎◌, ℕ, ◌-◌, ◌<◌, length, List, [], ◌∷◌, ◌++◌, map, Option, Some, None, Result, Ok, Err}
use Rattle.std.specs.List.{range_with_len}
use Rattle.ldm_disk.specs.declared.desk.Desk.{Desk}
use Rattle.ldm_disk.specs.Desks.{DeskRecord}
use Rattle.ldm_model.specs.State.{State, end_of, queued}
use Rattle.ldm_model.specs.History.{after}
use Rattle.ldm_shared.specs.declared.steps.TheConstants.{MOST_TURNS}
use Rattle.ldm_shared.specs.Passes.{SharedView, PassView, IsPassOf, IsSamePass, HasAllOf, new_pass}
use Rattle.ldm_recorder.specs.declared.end.RecordEnd.{RecordEnd}
use Rattle.ldm_recorder.specs.declared.end.RecordEnd.TheVariants as recording
use Rattle.ldm_recorder.specs.declared.recorder.Recorder.{Recorder}
use Rattle.ldm_recorder.specs.Course.{Gated, IfStopped, RecordsBy, gated_of}
use Rattle.ldm_recorder.specs.Finishing.{FinishesBy, turns_left}
use Rattle.ldm_recorder.specs.Numbers.{IsReady, KnowsLasts}
use Rattle.ldm_recorder.specs.Recording.{sight_of, who_of}
use Rattle.ldm_recorder.specs.Taking.{IsSameRecorder}
use Rattle.ldm_recorder.specs.Turns.{CaughtUp}
use Rattle.ldm_node.specs.declared.clerk.Clerk.{Clerk}
use Rattle.ldm_node.specs.declared.clerk.Recorded as recorded

-- What is seen of a clerk: the recorder, and what its desk tells.
pub record ClerkRecord : Type 0 where
  pub recorder : Recorder
  pub desk : DeskRecord

abbrev pub clerk_tells : {F E C G : Type 0} → (Desk F E C G → DeskRecord) → Clerk F E C G → ClerkRecord
clerk_tells tells clerk = record { recorder = clerk.recorder; desk = tells clerk.desk }

-- What recording leaves: what the desk tells, and how it ended.
pub record LeftRecord : Type 0 where
  pub desk : DeskRecord
  pub end : RecordEnd

abbrev pub left_tells : {F E C G : Type 0} → (Desk F E C G → DeskRecord) → recorded.Recorded F E C G → LeftRecord
left_tells tells left = record { desk = tells left.desk; end = left.end }

-- ---- the passes

-- the pass of a clerk is one by which its recorder was opened, and that of nobody is a new one
abbrev pub IsPassFor : SharedView → Option Recorder → PassView → Type 0
IsPassFor shared None pass = pass ≡ new_pass shared (shared.passes - 1)
IsPassFor shared (Some recorder) pass = IsReady pass recorder

-- The passes of a node are new, and behind them is that of a clerk, or of nobody.
pub record ArePassesFor (shared : SharedView) (passes : List PassView) (recorder : Option Recorder) : Type 0 where
  pub behind : PassView
  pub are : passes ≡ map (new_pass shared) (range_with_len 0 (shared.passes - 1)) ++ behind ∷ []
  pub of : IsPassOf shared behind
  pub actor : behind.actor ≡ shared.passes - 1
  pub is_for : IsPassFor shared recorder behind

-- ---- the work

-- what is seen of a clerk with its pass
abbrev pub with_pass : PassView → ClerkRecord → Gated
with_pass pass clerk = gated_of (sight_of pass clerk.recorder clerk.desk.disk clerk.desk.log) clerk.desk.gate

-- A worker recorded up to this end, from a pass and a clerk to those that it leaves. Where the gate had stopped it, what its recorder knows
-- of the REQUEST lines is by what the pass has seen.
pub record Records (why : RecordEnd) (old_pass : PassView) (old : ClerkRecord) (new_pass : PassView) (new : ClerkRecord) : Type 0 where
  pub same : IsSameRecorder old.recorder new.recorder
  pub records : RecordsBy why (who_of old_pass old.recorder) (with_pass old_pass old) (with_pass new_pass new)
  pub knows : IfStopped why (λ at. KnowsLasts new_pass.seen new.recorder)

-- how it ends where what was left over was recorded, or was not
abbrev pub EndsWith : Result (Unit {0}) RecordEnd → RecordEnd → RecordEnd → Type 0
EndsWith (Ok done) why end = end ≡ why
EndsWith (Err failed) why end = end ≡ failed

-- What was left over in a queue that had ended in that state was recorded, behind so many products, and committed with what the recorder
-- knows of the lines, by any pass that has seen it.
pub record Finishes (at : ℕ) (s : State) (end : RecordEnd) (old : ClerkRecord) (new : DeskRecord) : Type 0 where
  pub recorder : Recorder
  pub same : IsSameRecorder old.recorder recorder
  pub gate : new.gate ≡ old.desk.gate
  pub ended : Result (Unit {0}) RecordEnd
  pub ends : EndsWith ended (recording.Stopped at) end
  pub finishes : (pass : PassView) → KnowsLasts pass.seen old.recorder → (lasts : Option (List ℕ))
      × FinishesBy ended (who_of pass old.recorder)
      (turns_left old.recorder.base (end_of s) at (queued s) ++ CaughtUp (end_of s) lasts ∷ [])
      (sight_of pass old.recorder old.desk.disk old.desk.log) (sight_of pass recorder new.disk new.log)

-- Where the gate had stopped the worker, what was left over was recorded; else nothing more was done.
abbrev pub Closes : RecordEnd → State → RecordEnd → ClerkRecord → DeskRecord → Type 0
Closes (recording.Stopped at) s end old new = Finishes at s end old new
Closes why s end old new = (end ≡ why) × (new ≡ old.desk)

-- A worker recorded with a pass, of which the last one has all calls, and then what was left over at the end of the queue.
pub record IsRecorded (last old_pass : PassView) (old : ClerkRecord) (left : LeftRecord) : Type 0 where
  pub why : RecordEnd
  pub pass : PassView
  pub mid : ClerkRecord
  pub same : IsSamePass old_pass pass
  pub has_all : HasAllOf last pass
  pub records : Records why old_pass old pass mid
  pub closes : Closes why (after last.arena last.slots last.seen) left.end mid left.desk

-- No worker began: the desk is as it was handed out, and no call was made with the pass.
pub record IsNotRecorded (last old_pass : PassView) (old : ClerkRecord) (left : LeftRecord) : Type 0 where
  pub end : left.end ≡ recording.OutOfMemory
  pub desk : left.desk ≡ old.desk
  pub has_all : HasAllOf last old_pass

-- What came of the pass behind those of the stations: where there was no clerk nobody made a call with it.
abbrev pub LeavesBehind : PassView → PassView → Option ClerkRecord → Option LeftRecord → Type 0
LeavesBehind last pass None None = HasAllOf last pass
LeavesBehind last pass (Some clerk) (Some left) = IsRecorded last pass clerk left ⊎ IsNotRecorded last pass clerk left
LeavesBehind last pass None (Some left) = ⊥
LeavesBehind last pass (Some clerk) None = ⊥

-- Why recording ended, by what the desk tells and by what the last pass has seen.
abbrev pub RecordCause : RecordEnd → DeskRecord → PassView → Type 0
-- its gate stopped it
RecordCause (recording.Stopped at) desk last = 0 < desk.gate.stops
-- its disk failed
RecordCause recording.DiskFault desk last = 0 < desk.disk.faults
-- its log failed
RecordCause recording.LogFault desk last = 0 < desk.log.faults
-- the queue has had all its calls
RecordCause recording.Worn desk last = length last.seen ≡ MOST_TURNS
-- another wrote into its file; it has had all the numbers; there is no memory
RecordCause recording.NotAJournal desk last = Unit {0}
RecordCause recording.NoNumbers desk last = Unit {0}
RecordCause recording.OutOfMemory desk last = Unit {0}
