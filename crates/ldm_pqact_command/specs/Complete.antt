-- When `pqact` does all that is asked for.
use Rattle.std.specs.Prelude.{◌≡◌, ◌⊎◌, ℕ, List, Option, Some, None, Ok, Err}
use Rattle.std.specs.List.{flat_map}
use Rattle.ldm_outside.specs.Count.{Rose}
use Rattle.ldm_outside.specs.Launcher.{LauncherRecord}
use Rattle.ldm_outside.specs.Store.{StoreRecord}
use Rattle.ldm_types.specs.declared.signature.Signature.{Signature}
use Rattle.ldm_shared.specs.declared.fault.CreateFault.TheVariants as queue
use Rattle.ldm_shared.specs.Limits.{IsFaultOf}
use Rattle.ldm_shared.specs.Passes.{PassView}
use Rattle.ldm_actions.specs.Effects.{Action, closed, effects}
use Rattle.ldm_actions.specs.Outputs.{no_outputs, standing}
use Rattle.ldm_actions.specs.World.{World}
use Rattle.ldm_command_files.specs.declared.pqact_file.EntriesNotTaken.{EntriesNotTaken}
use Rattle.ldm_command_files.specs.PqactFiles.{TakesEntries, status_of_entries}
use Rattle.ldm_intake.specs.declared.end.RecvEnd.TheVariants as recv_end
use Rattle.ldm_gather.specs.declared.end.GatherEnd.{GatherEnd}
use Rattle.ldm_gather.specs.declared.end.GatherEnd.TheVariants as gather_end
use Rattle.ldm_gather.specs.declared.limits.TheConstants.{PASSES}
use Rattle.ldm_gather.specs.EachCourse.{Gives}
use Rattle.ldm_gather.specs.Orders.{OrderView}
use Rattle.ldm_gather.specs.Queue.{Opens}
use Rattle.ldm_gather.specs.Runs.{Connects}
use Rattle.ldm_pqact.specs.Carried.{world_in}
use Rattle.ldm_shared.specs.Givens.{Turn, count_of}
use Rattle.ldm_pqact.specs.Turns.{deeds_of}
use Rattle.ldm_pqact_conf.specs.Entries.{EntryView}
use Rattle.ldm_status.specs.declared.status.Status.{Status}
use Rattle.ldm_status.specs.declared.status.Status.TheVariants as status
use Rattle.ldm_status.specs.Status.{code_of}
use Rattle.ldm_pqact_command.specs.Course.{IsCounted, turns_in}
use Rattle.ldm_pqact_command.specs.Handling.{ActHandles}
use Rattle.ldm_pqact_command.specs.PqactRuns.{ActPaths, Here, PqactLent, acter_at, duty_of, here_of, within}
use Rattle.ldm_pqact_command.specs.State.{TakesStateIf, batch_deeds, behind, state_actions, status_of_state}
use Rattle.ldm_pqact_command.specs.declared.state.StateNotTaken.{StateNotTaken}

-- the peer's stream came to its end, or the cursor was given as many products as were asked for
abbrev pub IsWholeEnd : GatherEnd → Type 0
IsWholeEnd gathered = (gathered ≡ gather_end.Received recv_end.Ended) ⊎ (gathered ≡ gather_end.Enough)

-- the actions on these turns, with a state behind each batch, where one is kept
abbrev pub AreWhole : Option (List ℕ) → List EntryView → List Turn → List (Action × List ℕ) → Type 0
AreWhole None entries turns deeds = deeds ≡ deeds_of entries turns
AreWhole (Some path) entries turns deeds =
    (batches : List (List Turn)) × (turns_in batches ≡ turns) × (deeds ≡ flat_map (batch_deeds (state_actions path) entries) batches)

module _ {F L : Type 0} (store_tells : F → StoreRecord) (launcher_tells : L → LauncherRecord) where
  -- No count of faults rose: neither net, store, launcher nor log failed, nor a link that was given back.
  pub record Unfailing (old new : PqactLent F L) : Type 0 where
    pub net : ¬ (Rose old.net.faults new.net.faults)
    pub links : ¬ (Rose old.net.links.failed new.net.links.failed)
    pub store : ¬ (Rose (store_tells old.store).faults (store_tells new.store).faults)
    pub launcher : ¬ (Rose (launcher_tells old.launcher).faults (launcher_tells new.launcher).faults)
    pub log : ¬ (Rose old.log.faults new.log.faults)

  -- files and children, and nothing runs under PIPE
  abbrev pub world_at : PqactLent F L → World
  world_at lent = world_in (standing no_outputs (store_tells lent.store) (launcher_tells lent.launcher))

  -- Products were gathered up to such an end. Of each product that the cursor gave over all of that, all actions stand whole, with all
  -- files shut and all programs waited for.
  pub record ActsWhole (order : OrderView) (paths : ActPaths) (old new : PqactLent F L) : Type 0 where
    -- the entries that the file under the path means
    pub entries : List EntryView
    pub read : F
    pub takes : TakesEntries (Ok entries) paths.conf (store_tells old.store) (store_tells read)
    -- the state, where one is kept
    pub last : Option Signature
    pub begun : F
    pub resumes : TakesStateIf (Ok last) paths.state (store_tells read) (store_tells begun)
    -- a queue of its own, with a cursor at that place
    pub k : ℕ
    pub first : PassView
    pub opened : Opens order k first
    -- the gathering, and what it left
    pub gathered : GatherEnd
    pub is_end : IsWholeEnd gathered
    pub mid : Here F L
    pub connects : Connects (ActHandles store_tells launcher_tells) (Some gathered) (behind last order)
        (within (here_of (acter_at k order.count (duty_of entries paths.state)) first (record old { store = begun }))) (within mid)
    -- what the cursor gave, and what stands
    pub turns : List Turn
    pub gives : Gives k turns first mid.pass
    pub counted : IsCounted gathered order.count (count_of turns)
    pub deeds : List (Action × List ℕ)
    pub are_deeds : AreWhole paths.state entries turns deeds
    pub stands : world_at new ≡ closed (effects deeds (world_at old))

  -- what is known at each status of a run in which nothing failed
  abbrev pub IsComplete : Status → OrderView → ActPaths → (old new : PqactLent F L) → Type 0
  IsComplete status.Done order paths old new = ActsWhole order paths old new
  -- the file has a faulty entry, or is too long
  IsComplete (status.BadPqact line kind) order paths old new =
      (why : EntriesNotTaken) × (status_of_entries why ≡ status.BadPqact line kind)
      × TakesEntries (Err why) paths.conf (store_tells old.store) (store_tells new.store)
  -- there is no queue of those sizes
  IsComplete (status.RefusedArena arena) order paths old new = IsFaultOf order.arena order.slots PASSES (queue.BadArena arena)
  IsComplete (status.RefusedSlots slots) order paths old new = IsFaultOf order.arena order.slots PASSES (queue.BadSlots slots)
  IsComplete (status.RefusedPasses passes) order paths old new = IsFaultOf order.arena order.slots PASSES (queue.BadPasses passes)
  -- want of memory may come at any time
  IsComplete status.NoMemory order paths old new = Unit {0}
  -- by what the peer sent, or the queue had all its calls, as the end of the gathering says
  IsComplete (status.BadFrame at) order paths old new = Unit {0}
  IsComplete status.Denied order paths old new = Unit {0}
  IsComplete status.StreamLimit order paths old new = Unit {0}
  IsComplete status.Worn order paths old new = Unit {0}
  -- something failed
  IsComplete status.NetFault order paths old new = ⊥
  IsComplete status.StoreFault order paths old new = ⊥
  IsComplete status.ChildFault order paths old new = ⊥
  -- the state has a text that is of no signature
  IsComplete (status.BadConf file line kind) order paths old new =
      (why : StateNotTaken) × (status_of_state why ≡ status.BadConf file line kind)
      × TakesStateIf (Err why) paths.state (store_tells old.store) (store_tells new.store)
  -- these are of other commands
  IsComplete status.Usage order paths old new = ⊥
  IsComplete (status.BadLine line column) order paths old new = ⊥
  IsComplete (status.BadImage at) order paths old new = ⊥
  IsComplete status.SourceFault order paths old new = ⊥
  IsComplete status.SinkFault order paths old new = ⊥
  IsComplete status.Refused order paths old new = ⊥
  IsComplete status.Unclean order paths old new = ⊥

  -- Where nothing failed, the number is that of a status, so not 76, and what that status needs is there.
  abbrev pub PqactCompletes : (code : ℕ) → OrderView → ActPaths → (old new : PqactLent F L) → Type 0
  PqactCompletes code order paths old new =
      Unfailing old new → (it : Status) × (code ≡ code_of it) × IsComplete it order paths old new
