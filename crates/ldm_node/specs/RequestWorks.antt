-- What a worker does from its beginning to its end: one try after another.
use Rattle.std.specs.Prelude.{◌≡◌, List, [], ◌∷◌, length, true, false, Some, None}
use Rattle.ldm_outside.specs.declared.gate.Go.{Go}
use Rattle.ldm_outside.specs.declared.gate.Go.TheVariants.{On, Stop}
use Rattle.ldm_outside.specs.Count.{Rose}
use Rattle.ldm_outside.specs.Gate.{Idles}
use Rattle.ldm_outside.specs.Station.{StationRecord}
use Rattle.ldm_shared.specs.declared.steps.TheConstants.{MOST_TURNS}
use Rattle.ldm_shared.specs.Passes.{PassView}
use Rattle.ldm_conf.specs.Confs.{RequestView}
use Rattle.ldm_node.specs.declared.stop.NodeStop.{NodeStop}
use Rattle.ldm_node.specs.declared.stop.NodeStop.TheVariants.{Done, NetFault, LogFault, Worn, OutOfMemory}
use Rattle.ldm_node.specs.RequestMoments.{RequestMoment}
use Rattle.ldm_node.specs.Tries.{Try, TriesOnce, stop_behind}

-- The gate was asked once, and answered this.
pub record Asks (go : Go) (old new : RequestMoment) : Type 0 where
  pub idled : Idles go old.station.gate new.station.gate
  pub same : new ≡ record old { station = record old.station { gate = new.station.gate } }

-- One try, whose line the log took and whose end is not that of the worker; then the gate was asked.
pub record TriesAndAsks (go : Go) (request : RequestView) (try : Try) (old new : RequestMoment) : Type 0 where
  pub between : RequestMoment
  pub tries : TriesOnce true request try old between
  pub goes_on : stop_behind try ≡ None
  pub asks : Asks go between new

-- Tries one after another. Behind each the gate said to go on.
abbrev pub AreTries : RequestView → List Try → RequestMoment → RequestMoment → Type 0
AreTries request [] old new = new ≡ old
AreTries request (try ∷ tries) old new = (mid : RequestMoment) × TriesAndAsks On request try old mid × AreTries request tries mid new

-- The last try of a worker, and why it stops: the gate said to; or the log failed within its session or at its line; or the queue
-- has had all its calls.
abbrev pub EndsBy : NodeStop → RequestView → Try → RequestMoment → RequestMoment → Type 0
EndsBy Done request try old new = TriesAndAsks Stop request try old new
EndsBy LogFault request try old new = TriesOnce false request try old new
EndsBy Worn request try old new = TriesOnce true request try old new × (stop_behind try ≡ Some Worn)
EndsBy NetFault request try old new = ⊥
EndsBy OutOfMemory request try old new = ⊥

-- All tries of a worker: those behind which it went on, and the last one.
pub record Works (stop : NodeStop) (request : RequestView) (old new : RequestMoment) : Type 0 where
  pub tries : List Try
  pub before_last : RequestMoment
  pub each : AreTries request tries old before_last
  pub last : Try
  pub ends : EndsBy stop request last before_last new

-- what stands besides where a worker stops, in its station and in what its pass has seen
abbrev pub StopCause : NodeStop → PassView → StationRecord → StationRecord → Type 0
StopCause Done pass old new = Rose old.gate.stops new.gate.stops
StopCause LogFault pass old new = Rose old.log.faults new.log.faults
StopCause Worn pass old new = length pass.seen ≡ MOST_TURNS
StopCause NetFault pass old new = ⊥
StopCause OutOfMemory pass old new = ⊥
