-- What an `Outputs` keeps, and what each call of it does.
use Rattle.std.specs.Prelude.{◌≡◌, ℕ, ◌≤◌, Bool, true, false, List, [], drop, length, Option, Some, None, IsSome}
use Rattle.ldm_outside.specs.Count.{Rose}
use Rattle.ldm_outside.specs.Launcher.{LauncherRecord}
use Rattle.ldm_outside.specs.Store.{StoreRecord}
use Rattle.ldm_actions.specs.declared.answers.Begun.{Begun}
use Rattle.ldm_actions.specs.declared.answers.Begun.TheVariants as answer
use Rattle.ldm_actions.specs.declared.answers.Done.{Done}
use Rattle.ldm_actions.specs.declared.answers.Done.TheVariants as done
use Rattle.ldm_actions.specs.declared.answers.Fault.{Fault}
use Rattle.ldm_actions.specs.declared.answers.Fault.TheVariants as fault
use Rattle.ldm_actions.specs.declared.hand.Hand.{Hand}
use Rattle.ldm_actions.specs.Effects.{Action, ToFile, ToProgram, Start, Nothing, InHand, Target, Nowhere, File, Child, begun, closed, finished, given, in_hand}
use Rattle.ldm_actions.specs.Hands.{hand_seen}
use Rattle.ldm_actions.specs.Kept.{IsNewest}
use Rattle.ldm_actions.specs.declared.limits.TheConstants.{MOST_OPEN}
use Rattle.ldm_actions.specs.OpenFiles.{KeepsFiles, all_shut, file_side, store_begun, store_finished, used}
use Rattle.ldm_actions.specs.Parts.{IsGivenPart, begin_parts, close_parts, finish_parts}
use Rattle.ldm_actions.specs.Programs.{IsOneOf, KeepsPrograms, program_side, running_after, world_with}
use Rattle.ldm_actions.specs.World.{Outside, World}

-- What is kept open and running, and what the store and the launcher tell.
pub record Kept : Type 0 where
  pub files : List (List ℕ × ℕ)
  pub piped : List (List ℕ × ℕ)
  pub store : StoreRecord
  pub launcher : LauncherRecord

abbrev pub kept_in : List (List ℕ × ℕ) → List (List ℕ × ℕ) → StoreRecord → LauncherRecord → Kept
kept_in files piped store launcher = record { files = files; piped = piped; store = store; launcher = launcher }

-- All that is kept is of this store and launcher: files that are open there, each under its path, and programs that take bytes.
pub record Keeps (now : Kept) : Type 0 where
  pub files : KeepsFiles (file_side now.files now.store)
  pub programs : KeepsPrograms (program_side now.piped now.launcher)

-- No more files are open in the store than are kept: since each that is kept is open, nothing else is.
abbrev pub OpensOnlyKept : Kept → Type 0
OpensOnlyKept now = length now.store.paths ≤ length now.files

-- what stands
abbrev pub world_of : Kept → World
world_of now = world_with now.store.files (program_side now.piped now.launcher)

-- No call failed. This world stands now, these files are kept open, and nothing else is open where nothing else was.
pub record Becomes (world : World) (files : List (List ℕ × ℕ)) (old new : Kept) : Type 0 where
  pub world_now : world_of new ≡ world
  pub files_now : new.files ≡ files
  pub only_kept : OpensOnlyKept old → OpensOnlyKept new
  pub keeps : Keeps new
  pub store_faults : new.store.faults ≡ old.store.faults
  pub long : new.store.long ≡ old.store.long
  pub launcher_faults : new.launcher.faults ≡ old.launcher.faults

-- The store failed, and what stands is such. At most 32 files are open, where nothing else was open than what is kept.
pub record StoreStops (IsPart : Outside → Type 0) (old new : Kept) : Type 0 where
  pub rose : Rose old.store.faults new.store.faults
  pub few_open : OpensOnlyKept old → length new.store.paths ≤ MOST_OPEN
  pub stands : IsPart (world_of new).outside
  pub long : new.store.long ≡ old.store.long
  pub launcher : new.launcher ≡ old.launcher

-- The launcher failed, and what stands is such. This is what the store tells.
pub record LauncherStops (IsPart : Outside → Type 0) (store : StoreRecord) (old new : Kept) : Type 0 where
  pub store_now : new.store ≡ store
  pub rose : Rose old.launcher.faults new.launcher.faults
  pub stands : IsPart (world_of new).outside
  pub store_faults : new.store.faults ≡ old.store.faults
  pub long : new.store.long ≡ old.store.long

-- the files that are kept open after an action was begun: before one more is opened than may be, the one used longest ago is shut
abbrev pub files_after_begin : Action → Kept → List (List ℕ × ℕ)
files_after_begin (ToFile path options) old = used path old.store.next old.files
files_after_begin (ToProgram words options) old = old.files
files_after_begin (Start words wait) old = old.files
files_after_begin Nothing old = old.files

-- What the store and the launcher tell after an action was begun, besides what stands. The file of an action is opened with room
-- for it, where it is not kept. A program that was started by EXEC is told no more: it has ended, or was let go.
abbrev pub BeginLeaves : Action → Kept → Kept → Type 0
BeginLeaves (ToFile path options) old new =
    (new.store ≡ store_begun options.overwrite path old.files old.store) × (new.launcher ≡ old.launcher)
BeginLeaves (ToProgram words options) old new = new.store ≡ old.store
BeginLeaves (Start words wait) old new = (new.store ≡ old.store) × (new.launcher.running ≡ running_after words old.launcher)
BeginLeaves Nothing old new = (new.store ≡ old.store) × (new.launcher ≡ old.launcher)

-- What beginning an action did to what is kept.
abbrev pub BeginsKept : Begun → Action → Kept → Kept → Type 0
BeginsKept answer.Ready action old new =
    Becomes (begun action (world_of old)) (files_after_begin action old) old new × BeginLeaves action old new
BeginsKept answer.StoreFault action old new = StoreStops (IsOneOf (begin_parts action (world_of old))) old new
BeginsKept answer.LaunchFault action old new = LauncherStops (IsOneOf (begin_parts action (world_of old))) old.store old new
BeginsKept answer.OutOfMemory action old new = new ≡ old

-- What a further call did where one failed: what stands is such. Where the launcher failed, this is what the store tells.
abbrev pub Stops : Done → (Outside → Type 0) → StoreRecord → Kept → Kept → Type 0
Stops done.Ok IsPart store old new = ⊥
Stops done.StoreFault IsPart store old new = StoreStops IsPart old new
Stops done.LaunchFault IsPart store old new = LauncherStops IsPart store old new

-- What each further call did: all of it, or it was stopped.
abbrev pub GoesOn : Done → Type 0 → Type 0 → Type 0
GoesOn done.Ok all stops = all
GoesOn done.StoreFault all stops = stops
GoesOn done.LaunchFault all stops = stops

-- nothing that the store and the launcher tell changed but the bytes of files, or those that children were given
abbrev pub OnlyGives : Target → Kept → Kept → Type 0
OnlyGives Nowhere old new = (new.store ≡ old.store) × (new.launcher ≡ old.launcher)
OnlyGives (File path) old new = (new.store ≡ record old.store { files = new.store.files }) × (new.launcher ≡ old.launcher)
OnlyGives Child old new = (new.store ≡ old.store) × (new.launcher ≡ record old.launcher { children = new.launcher.children })

abbrev pub GivesKept : Done → InHand → List ℕ → Kept → Kept → Type 0
GivesKept result hand bytes old new =
    GoesOn result (Becomes (given hand bytes (world_of old)) old.files old new × OnlyGives hand.target old new)
    (Stops result (IsGivenPart hand bytes (world_of old)) old.store old new)

-- the files that are kept open after an action was finished
abbrev pub files_after_finish : Target → Bool → List (List ℕ × ℕ) → List (List ℕ × ℕ)
files_after_finish (File path) true files = drop 1 files
files_after_finish (File path) false files = files
files_after_finish Nowhere close files = files
files_after_finish Child close files = files

abbrev pub LeavesBy : Target → Bool → Bool → Kept → Kept → Type 0
LeavesBy Nowhere flush close old new = (new.store ≡ old.store) × (new.launcher ≡ old.launcher)
LeavesBy (File path) flush close old new =
    (new.store ≡ store_finished flush close old.files old.store) × (new.launcher ≡ old.launcher)
LeavesBy Child flush close old new = new.store ≡ old.store

-- What the store and the launcher tell after an action was finished, besides what stands. The file that was used last has been
-- flushed once more, and it is not open any more, where that is wanted.
abbrev pub FinishLeaves : InHand → Kept → Kept → Type 0
FinishLeaves hand old new = LeavesBy hand.target hand.flush hand.close old new

abbrev pub FinishesKept : Done → InHand → Kept → Kept → Type 0
FinishesKept result hand old new =
    GoesOn result
    (Becomes (finished hand (world_of old)) (files_after_finish hand.target hand.close old.files) old new × FinishLeaves hand old new)
    (Stops result (IsOneOf (finish_parts hand (world_of old))) old.store old new)

-- All files that are kept are shut, also where the launcher failed behind that.
abbrev pub ClosesKept : Done → Kept → Kept → Type 0
ClosesKept result old new =
    GoesOn result (Becomes (closed (world_of old)) [] old new × (new.store ≡ all_shut old.files old.store))
    (Stops result (IsOneOf (close_parts (world_of old))) (all_shut old.files old.store) old new)

-- An action in hand writes to what was used last.
abbrev pub IsOfKept : Target → List (List ℕ × ℕ) → List (List ℕ × ℕ) → Type 0
IsOfKept Nowhere files piped = Unit {0}
IsOfKept (File path) files piped = (number : ℕ) × IsNewest (path, number) files
IsOfKept Child files piped = (it : List ℕ × ℕ) × IsNewest it piped

-- What contracts see of an `Outputs`.
pub record OutputsView : Type 0 where
  -- the files that are kept open, each under its path: the one that was used last comes first
  pub files : List (List ℕ × ℕ)
  -- the children that run under PIPE, each under its command: the one that was written last comes first
  pub piped : List (List ℕ × ℕ)
  -- the action in hand
  pub hand : Option InHand
  -- the fault that it is spent by
  pub spent : Option Fault

abbrev pub outputs_view : List (List ℕ × ℕ) → List (List ℕ × ℕ) → Option Hand → Option Fault → OutputsView
outputs_view files piped hand spent = record { files = files; piped = piped; hand = hand_seen hand files; spent = spent }

-- an `Outputs` that was just made
abbrev pub no_outputs : OutputsView
no_outputs = record { files = []; piped = []; hand = None; spent = None }

-- An `Outputs`, and the store and the launcher that are lent.
pub record Standing : Type 0 where
  pub outputs : OutputsView
  pub store : StoreRecord
  pub launcher : LauncherRecord

abbrev pub standing : OutputsView → StoreRecord → LauncherRecord → Standing
standing outputs store launcher = record { outputs = outputs; store = store; launcher = launcher }

abbrev pub kept_by : Standing → Kept
kept_by now = kept_in now.outputs.files now.outputs.piped now.store now.launcher

abbrev pub HandIsKept : Option InHand → Standing → Type 0
HandIsKept None now = Unit {0}
HandIsKept (Some hand) now = IsOfKept hand.target now.outputs.files now.outputs.piped

-- All that it keeps is of this store and launcher, and an action in hand writes to what was used last.
pub record KeepsAll (now : Standing) : Type 0 where
  pub kept : Keeps (kept_by now)
  pub hand : HandIsKept now.outputs.hand now

-- the same of one that is not spent
abbrev pub KeepsUnlessSpent : Standing → Type 0
KeepsUnlessSpent now = now.outputs.spent ≡ None → KeepsAll now

-- what was just made keeps nothing, of whatever store and launcher
abbrev pub KeepsOfAny : OutputsView → Type 0
KeepsOfAny outputs = (store : StoreRecord) (launcher : LauncherRecord) → KeepsUnlessSpent (standing outputs store launcher)

-- At most 32 files are open in the store. Where the `Outputs` is not spent, they are those that it keeps.
pub record OpensFew (now : Standing) : Type 0 where
  pub few : length now.store.paths ≤ MOST_OPEN
  pub only_kept : now.outputs.spent ≡ None → OpensOnlyKept (kept_by now)

-- an action is in hand, of one that is not spent
abbrev pub HasHand : OutputsView → Type 0
HasHand outputs = outputs.spent ≡ None → IsSome outputs.hand

-- an action is in hand after it was begun, but for want of memory
abbrev pub BeginsHand : Begun → OutputsView → Type 0
BeginsHand answer.Ready outputs = HasHand outputs
BeginsHand answer.StoreFault outputs = HasHand outputs
BeginsHand answer.LaunchFault outputs = HasHand outputs
BeginsHand answer.OutOfMemory outputs = Unit {0}

-- It is not spent, and this action is in hand.
pub record HasInHand (hand : Option InHand) (now : Standing) : Type 0 where
  pub in_hand : now.outputs.hand ≡ hand
  pub unspent : now.outputs.spent ≡ None

-- what a spent one answers
abbrev pub begun_again : Fault → Begun
begun_again fault.Store = answer.StoreFault
begun_again fault.Launch = answer.LaunchFault

abbrev pub done_again : Fault → Done
done_again fault.Store = done.StoreFault
done_again fault.Launch = done.LaunchFault

-- What a call on one that is not spent left in hand: after a fault it is spent.
abbrev pub LeavesBegun : Begun → Option InHand → Standing → Standing → Type 0
LeavesBegun answer.Ready hand old new = HasInHand hand new
LeavesBegun answer.StoreFault hand old new = new.outputs.spent ≡ Some fault.Store
LeavesBegun answer.LaunchFault hand old new = new.outputs.spent ≡ Some fault.Launch
LeavesBegun answer.OutOfMemory hand old new = new ≡ old

abbrev pub LeavesDone : Done → Option InHand → Standing → Type 0
LeavesDone done.Ok hand new = HasInHand hand new
LeavesDone done.StoreFault hand new = new.outputs.spent ≡ Some fault.Store
LeavesDone done.LaunchFault hand new = new.outputs.spent ≡ Some fault.Launch

-- What `begin` did. One that is spent answers its first fault again and touches nothing.
abbrev pub BeginsBy : Option Fault → Begun → Action → Standing → Standing → Type 0
BeginsBy (Some fault) result action old new = (result ≡ begun_again fault) × (new ≡ old)
BeginsBy None result action old new = BeginsKept result action (kept_by old) (kept_by new) × LeavesBegun result (Some (in_hand action)) old new

abbrev pub Begins : Begun → Action → Standing → Standing → Type 0
Begins result action old new = BeginsBy old.outputs.spent result action old new

-- What `piece` did.
abbrev pub GivesBy : Option Fault → Option InHand → Done → List ℕ → Standing → Standing → Type 0
GivesBy (Some fault) hand result bytes old new = (result ≡ done_again fault) × (new ≡ old)
GivesBy None None result bytes old new = ⊥
GivesBy None (Some hand) result bytes old new = GivesKept result hand bytes (kept_by old) (kept_by new) × LeavesDone result (Some hand) new

abbrev pub Gives : Done → List ℕ → Standing → Standing → Type 0
Gives result bytes old new = GivesBy old.outputs.spent old.outputs.hand result bytes old new

-- What `finish` did.
abbrev pub FinishesBy : Option Fault → Option InHand → Done → Standing → Standing → Type 0
FinishesBy (Some fault) hand result old new = (result ≡ done_again fault) × (new ≡ old)
FinishesBy None None result old new = ⊥
FinishesBy None (Some hand) result old new = FinishesKept result hand (kept_by old) (kept_by new) × LeavesDone result None new

abbrev pub Finishes : Done → Standing → Standing → Type 0
Finishes result old new = FinishesBy old.outputs.spent old.outputs.hand result old new

-- What `close_all` did.
abbrev pub ClosesBy : Option Fault → Done → Standing → Standing → Type 0
ClosesBy (Some fault) result old new = (result ≡ done_again fault) × (new ≡ old)
ClosesBy None result old new = ClosesKept result (kept_by old) (kept_by new) × LeavesDone result None new

abbrev pub Closes : Done → Standing → Standing → Type 0
Closes result old new = ClosesBy old.outputs.spent result old new
