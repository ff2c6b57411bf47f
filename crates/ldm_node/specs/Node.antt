-- What a node does.
use Rattle.std.specs.Prelude.{◌≡◌, ℕ, ◌<◌, ◌⊎◌, List, length, slice_index_or}
use Rattle.ldm_outside.specs.Station.{StationRecord}
use Rattle.ldm_shared.specs.Passes.{SharedView, PassView, HasAllOf, new_pass}
use Rattle.ldm_node.specs.declared.stop.NodeStop.{NodeStop}
use Rattle.ldm_node.specs.declared.stop.NodeStop.TheVariants.{Done, OutOfMemory}
use Rattle.ldm_node.specs.Roles.{Plan}
use Rattle.ldm_node.specs.Stops.{first_stop}
use Rattle.ldm_node.specs.Workers.{Runs}

-- What a node leaves: the pass that has seen all calls, its stations, and why it ended.
pub record Outcome (S : Type 0) : Type 0 where
  pub pass : PassView
  pub stations : List S
  pub end : NodeStop

-- The worker of each station did what its role says, each with the pass of its actor, from the station as it was handed out to that which
-- is left. The end is why the first of them stopped that was not done.
pub record AllRun {S : Type 0} (tells : S → StationRecord) (plan : Plan) (shared : SharedView) (given : List S) (left : Outcome S) : Type 0 where
  pub stops : List NodeStop
  pub count_stops : length stops ≡ length given
  pub count : length left.stations ≡ length given
  pub each : (actor : ℕ) (d : S) → actor < length given
      → Runs plan shared left.pass actor (slice_index_or stops actor Done) (tells (slice_index_or given actor d)) (tells (slice_index_or left.stations actor d))
  pub end : left.end ≡ first_stop stops

-- No worker began, for want of memory: the stations are as they were handed out, and no call was made with a pass of theirs.
pub record NoneBegan {S : Type 0} (shared : SharedView) (given : List S) (left : Outcome S) : Type 0 where
  pub stations : left.stations ≡ given
  pub uncalled : (actor : ℕ) → actor < length given → HasAllOf left.pass (new_pass shared actor)
  pub end : left.end ≡ OutOfMemory

-- what came of these stations: all workers worked, or there was no memory for them
abbrev pub Staffs : {S : Type 0} → (S → StationRecord) → Plan → SharedView → List S → Outcome S → Type 0
Staffs tells plan shared given left = AllRun tells plan shared given left ⊎ NoneBegan shared given left
