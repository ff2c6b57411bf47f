-- What `pqact` does.
use Rattle.std.specs.Prelude.{◌≡◌, ◌≤◌, ◌⊎◌, ℕ, List, Option, Some, None, option_map, Ok, Err}
use Rattle.std.specs.Option.{option_copied}
use Rattle.ldm_outside.specs.Clock.{ClockRecord}
use Rattle.ldm_outside.specs.Dial.{DialRecord}
use Rattle.ldm_outside.specs.Io.{SinkRecord}
use Rattle.ldm_outside.specs.Launcher.{LauncherRecord}
use Rattle.ldm_outside.specs.Store.{StoreRecord}
use Rattle.ldm_types.specs.declared.signature.Signature.{Signature}
use Rattle.ldm_shared.specs.declared.fault.CreateFault.{CreateFault}
use Rattle.ldm_shared.specs.declared.fault.CreateFault.TheVariants.{OutOfMemory}
use Rattle.ldm_shared.specs.Limits.{IsFaultOf}
use Rattle.ldm_shared.specs.Passes.{PassView}
use Rattle.ldm_actions.specs.Outputs.{Standing, no_outputs}
use Rattle.ldm_command_files.specs.declared.pqact_file.EntriesNotTaken.{EntriesNotTaken}
use Rattle.ldm_command_files.specs.PqactFiles.{TakesEntries}
use Rattle.ldm_gather.specs.declared.end.GatherEnd.{GatherEnd}
use Rattle.ldm_gather.specs.declared.limits.TheConstants.{PASSES}
use Rattle.ldm_gather.specs.Orders.{OrderView}
use Rattle.ldm_gather.specs.Queue.{Opens}
use Rattle.ldm_gather.specs.Runs.{Connects, Situation, situation_of}
use Rattle.ldm_gather.specs.Scene.{scene_of}
use Rattle.ldm_pqact.specs.Acting.{Sight, sight_of}
use Rattle.ldm_pqact_conf.specs.Entries.{EntryView}
use Rattle.ldm_pqact_command.specs.declared.end.PqactEnd.{PqactEnd}
use Rattle.ldm_pqact_command.specs.declared.end.PqactEnd.TheVariants.{NotTaken, NotResumed, NotMade, Unreached}
use Rattle.ldm_pqact_command.specs.declared.command.ActOrder.{ActOrder}
use Rattle.ldm_pqact_command.specs.declared.state.StateNotTaken.{StateNotTaken}
use Rattle.ldm_pqact_command.specs.ActerView.{ActerView}
use Rattle.ldm_pqact_command.specs.Closing.{ClosesAll}
use Rattle.ldm_pqact_command.specs.Course.{ActsAll}
use Rattle.ldm_pqact_command.specs.Handling.{ActHandles, standing_in}
use Rattle.ldm_pqact_command.specs.State.{TakesStateIf, behind, state_actions}
use Rattle.ldm_pqact_command.specs.Statuses.{IsEndOf, ReportsIf, status_of}

-- What `pqact` uses of the outside.
pub record PqactLent (F L : Type 0) : Type 0 where
  pub net : DialRecord
  pub store : F
  pub launcher : L
  pub log : SinkRecord
  pub clock : ClockRecord

abbrev pub pqact_lent : {F L : Type 0} → DialRecord → F → L → SinkRecord → ClockRecord → PqactLent F L
pqact_lent net store launcher log clock = record { net = net; store = store; launcher = launcher; log = log; clock = clock }

-- The paths of the pqact.conf, and of the state, where one is kept.
pub record ActPaths : Type 0 where
  pub conf : List ℕ
  pub state : Option (List ℕ)

abbrev pub paths_of : ActOrder → ActPaths
paths_of order = record { conf = order.conf.now; state = option_copied order.state }

-- no state is kept
abbrev pub only_conf : List ℕ → ActPaths
only_conf path = record { conf = path; state = None }

-- By which entries products are acted on, and the path of the state, where one is kept.
pub record Duty : Type 0 where
  pub entries : List EntryView
  pub state : Option (List ℕ)

abbrev pub duty_of : List EntryView → Option (List ℕ) → Duty
duty_of entries state = record { entries = entries; state = state }

-- the handler before the first product
abbrev pub acter_at : ℕ → Option ℕ → Duty → ActerView
acter_at k count duty = record {
  k = k;
  left = count;
  entries = duty.entries;
  outputs = no_outputs;
  state = option_map state_actions duty.state;
  last = None;
  why = None;
}

-- The handler and the pass, with what is used of the outside.
pub record Here (F L : Type 0) : Type 0 where
  pub acter : ActerView
  pub pass : PassView
  pub lent : PqactLent F L

abbrev pub here_of : {F L : Type 0} → ActerView → PassView → PqactLent F L → Here F L
here_of acter pass lent = record { acter = acter; pass = pass; lent = lent }

-- the same as the gathering has it
abbrev pub within : {F L : Type 0} → Here F L → Situation ActerView F L
within here = situation_of (scene_of here.acter here.lent.store here.lent.launcher here.pass here.lent.log) here.lent.net here.lent.clock

-- No queue was made, for a fault of its sizes, or there was no memory to begin; and nothing was touched.
pub record MakesNone {F L : Type 0} (end : PqactEnd) (order : OrderView) (old new : PqactLent F L) : Type 0 where
  pub fault : CreateFault
  pub is : end ≡ NotMade fault
  pub cause : (fault ≡ OutOfMemory) ⊎ IsFaultOf order.arena order.slots PASSES fault
  pub others : new ≡ old

module _ {F L : Type 0} (store_tells : F → StoreRecord) (launcher_tells : L → LauncherRecord) where
  -- the outputs of the handler, with the store and the launcher
  abbrev pub standing_at : Here F L → Standing
  standing_at here = standing_in store_tells launcher_tells here.acter here.lent.store here.lent.launcher

  -- the same with the pass and the log
  abbrev pub sight_at : Here F L → Sight
  sight_at here = sight_of here.pass (standing_at here) here.lent.log

  -- What was acted on over all pieces of a gathering, and behind it the outputs were closed. Where acting on products stopped, the state of the
  -- last product is written then, if one is kept.
  pub record Closes (end : PqactEnd) (gathered : GatherEnd) (old mid : Here F L) (new : PqactLent F L) : Type 0 where
    pub acts : ActsAll gathered mid.acter old.acter (sight_at old) (sight_at mid)
    pub closes : ClosesAll gathered mid.acter (standing_at mid) (store_tells new.store) (launcher_tells new.launcher)
    pub is_end : IsEndOf end gathered mid.acter.why closes.answer
    pub others : new ≡ record mid.lent { store = new.store; launcher = new.launcher }

  -- the same where a link was connected; else nothing more was done
  abbrev pub ClosesIf : PqactEnd → Option GatherEnd → (old mid : Here F L) → PqactLent F L → Type 0
  ClosesIf end (Some gathered) old mid new = Closes end gathered old mid new
  ClosesIf end None old mid new = (end ≡ Unreached) × (new ≡ mid.lent)

  -- With a queue and its cursor, it connected, gathered and gave the link back, as `Connects` says.
  pub record Ran (end : PqactEnd) (order : OrderView) (old : Here F L) (new : PqactLent F L) : Type 0 where
    -- how the gathering ended, and what it left
    pub gathered : Option GatherEnd
    pub mid : Here F L
    pub connects : Connects (ActHandles store_tells launcher_tells) gathered order (within old) (within mid)
    pub closes : ClosesIf end gathered old mid new

  -- It made a queue of its own, opened a cursor of it, and gathered.
  pub record Makes (end : PqactEnd) (order : OrderView) (duty : Duty) (old new : PqactLent F L) : Type 0 where
    pub k : ℕ
    pub first : PassView
    pub opened : Opens order k first
    pub ran : Ran end order (here_of (acter_at k order.count duty) first old) new

  -- No queue was made; or it was.
  abbrev pub ActEnds : PqactEnd → OrderView → Duty → (old new : PqactLent F L) → Type 0
  ActEnds end order duty old new = MakesNone end order old new ⊎ Makes end order duty old new

  -- No state was taken, and nothing else was touched.
  pub record ResumesNot (end : PqactEnd) (state : Option (List ℕ)) (old new : PqactLent F L) : Type 0 where
    pub why : StateNotTaken
    pub is : end ≡ NotResumed why
    pub takes : TakesStateIf (Err why) state (store_tells old.store) (store_tells new.store)
    pub others : new ≡ record old { store = new.store }

  -- The state was taken, where one is kept: the products behind the one of its signature are asked for.
  pub record Resumes (end : PqactEnd) (order : OrderView) (duty : Duty) (old new : PqactLent F L) : Type 0 where
    pub last : Option Signature
    pub begun : F
    pub takes : TakesStateIf (Ok last) duty.state (store_tells old.store) (store_tells begun)
    pub acts : ActEnds end (behind last order) duty (record old { store = begun }) new

  abbrev pub ResumesBy : PqactEnd → OrderView → Duty → (old new : PqactLent F L) → Type 0
  ResumesBy end order duty old new = ResumesNot end duty.state old new ⊎ Resumes end order duty old new

  -- No entries were taken from the file under the path, and nothing else was touched.
  pub record TakesNone (end : PqactEnd) (conf : List ℕ) (old new : PqactLent F L) : Type 0 where
    pub why : EntriesNotTaken
    pub is : end ≡ NotTaken why
    pub takes : TakesEntries (Err why) conf (store_tells old.store) (store_tells new.store)
    pub others : new ≡ record old { store = new.store }

  -- Entries were taken from the file under the path.
  pub record TakesSome (end : PqactEnd) (order : OrderView) (paths : ActPaths) (old new : PqactLent F L) : Type 0 where
    pub entries : List EntryView
    pub read : F
    pub takes : TakesEntries (Ok entries) paths.conf (store_tells old.store) (store_tells read)
    pub resumes : ResumesBy end order (duty_of entries paths.state) (record old { store = read }) new

  abbrev pub PqactEnds : PqactEnd → OrderView → ActPaths → (old new : PqactLent F L) → Type 0
  PqactEnds end order paths old new = TakesNone end paths.conf old new ⊎ TakesSome end order paths old new

  -- It ended so, and the number and the log tell how.
  pub record Pqacts (code : ℕ) (order : OrderView) (paths : ActPaths) (old new : PqactLent F L) : Type 0 where
    pub ending : PqactEnd
    pub ended : PqactLent F L
    pub ends : PqactEnds ending order paths old ended
    pub reports : ReportsIf (status_of ending) code ended.log new.log
    pub others : new ≡ record ended { log = new.log }

  -- No count fell.
  pub record KeepsPqactCounts (old new : PqactLent F L) : Type 0 where
    pub net : old.net.faults ≤ new.net.faults
    pub ended : old.net.links.ended ≤ new.net.links.ended
    pub failed : old.net.links.failed ≤ new.net.links.failed
    pub store : (store_tells old.store).faults ≤ (store_tells new.store).faults
    pub launcher : (launcher_tells old.launcher).faults ≤ (launcher_tells new.launcher).faults
    pub log : old.log.faults ≤ new.log.faults
