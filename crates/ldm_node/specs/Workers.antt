-- One worker of a node.
use Rattle.std.specs.Prelude.{◌≡◌, ℕ, false, List, Option}
use Rattle.ldm_outside.specs.Station.{StationRecord}
use Rattle.ldm_shared.specs.Passes.{SharedView, PassView, IsSamePass, HasAllOf, new_pass}
use Rattle.ldm_node.specs.declared.stop.NodeStop.{NodeStop}
use Rattle.ldm_node.specs.declared.stop.NodeStop.TheVariants.{Done}
use Rattle.ldm_node.specs.DoorMoments as acceptor
use Rattle.ldm_node.specs.DoorWorks as acceptor_works
use Rattle.ldm_node.specs.RequestMoments as requester
use Rattle.ldm_node.specs.RequestWorks as requester_works
use Rattle.ldm_node.specs.Roles.{Plan, Role, LetsIn, Asks, Rests, last_for, role_of}

-- A worker did what its role says, from a pass and a station to those that it leaves, and stopped so. One that asks begins behind the last
-- product of its request that is known.
abbrev pub WorksAs : Plan → Role → NodeStop → PassView → StationRecord → PassView → StationRecord → Type 0
WorksAs plan LetsIn stop old_pass old new_pass new =
    acceptor_works.Works stop plan.rules plan.sessions (acceptor.moment old_pass old) (acceptor.moment new_pass new)
WorksAs plan (Asks request) stop old_pass old new_pass new =
    (last : Option (List ℕ))
    × requester_works.Works stop request (requester.moment old_pass old (last_for plan old_pass.actor)) (requester.moment new_pass new last)
WorksAs plan Rests stop old_pass old new_pass new = (stop ≡ Done) × (new_pass ≡ old_pass) × (new ≡ old)

-- what stands besides where a worker of that role stops, in what its pass has seen and in its station
abbrev pub HasCause : Plan → Role → NodeStop → PassView → StationRecord → StationRecord → Type 0
HasCause plan LetsIn stop pass old new = acceptor_works.StopCause stop plan.sessions pass old new
HasCause plan (Asks request) stop pass old new = requester_works.StopCause stop pass old new
HasCause plan Rests stop pass old new = stop ≡ Done

-- The worker of an actor, from its new pass and its station: it did what its role says, with the cause that its stop has. The last pass
-- has all calls that were made with its pass.
pub record Runs (plan : Plan) (shared : SharedView) (last : PassView) (actor : ℕ) (stop : NodeStop) (old new : StationRecord) : Type 0 where
  pub pass : PassView
  pub same : IsSamePass (new_pass shared actor) pass
  pub works : WorksAs plan (role_of plan actor) stop (new_pass shared actor) old pass new
  pub cause : HasCause plan (role_of plan actor) stop pass old new
  pub has_all : HasAllOf last pass

-- no link of a station is out
abbrev pub NoneOut : StationRecord → Type 0
NoneOut station = (station.door.links.out ≡ false) × (station.dial.links.out ≡ false)
