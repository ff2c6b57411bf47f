-- Posts: a station for each worker, a clerk behind them, and why each stopped. No caller needs these.
use Rattle.std.specs.Prelude.{◌≡◌, List, [], ◌∷◌, ◌++◌, Option, Some, None, IfSome}
use Rattle.std.specs.Option.{option_to_list}
use Rattle.ldm_outside.specs.Station.{StationRecord}
use Rattle.ldm_shared.specs.Passes.{PassView}
use Rattle.ldm_node.specs.declared.stop.NodeStop.{NodeStop}
use Rattle.ldm_node.specs.declared.stop.NodeStop.TheVariants.{Done}
use Rattle.ldm_node.specs.declared.post.Post.{Post}
use Rattle.ldm_node.specs.Roles.{Plan, role_of}
use Rattle.ldm_node.specs.Workers.{HasCause, NoneOut, WorksAs}

-- a clerk did its work, and without one nothing was done
abbrev pub ClerkWorks : {K : Type 0} → (PassView → K → PassView → K → Type 0) → PassView → Option K → PassView → Option K → Type 0
ClerkWorks does old_pass (Some old) new_pass (Some new) = does old_pass old new_pass new
ClerkWorks does old_pass (Some old) new_pass None = ⊥
ClerkWorks does old_pass None new_pass (Some new) = ⊥
ClerkWorks does old_pass None new_pass None = new_pass ≡ old_pass

module _ {S K : Type 0} where
  abbrev pub post_of : S → Post S K
  post_of station = record { station = Some station; clerk = None; stop = Done }

  -- the post of the worker without a station, which may be a clerk
  abbrev pub last_post : Option K → Post S K
  last_post clerk = record { station = None; clerk = clerk; stop = Done }

  -- a post of each station, and one without a station behind them
  abbrev pub posts_of : List S → Option K → List (Post S K)
  posts_of [] clerk = last_post clerk ∷ []
  posts_of (station ∷ stations) clerk = post_of station ∷ posts_of stations clerk

  -- the stations of posts, in order
  abbrev pub stations_of : List (Post S K) → List S
  stations_of [] = []
  stations_of (post ∷ posts) = option_to_list post.station ++ stations_of posts

  -- the clerk of the last of these posts, or one before them
  abbrev pub clerk_behind : Option K → List (Post S K) → Option K
  clerk_behind before [] = before
  clerk_behind before (post ∷ posts) = clerk_behind post.clerk posts

  -- only the last of these posts may have a clerk
  abbrev pub AreLast : List (Post S K) → Type 0
  AreLast [] = Unit {0}
  AreLast (post ∷ []) = Unit {0}
  AreLast (post ∷ next ∷ posts) = (post.clerk ≡ None) × AreLast (next ∷ posts)

  abbrev pub stop_of : Post S K → NodeStop
  stop_of post = post.stop

  module _ (tells : S → StationRecord) where
    -- a worker may begin at a post: no link of its station is out, and its clerk is ready
    abbrev pub MayBegin : (PassView → K → Type 0) → PassView → Post S K → Type 0
    MayBegin ready pass post = IfSome post.station (λ station. NoneOut (tells station)) × IfSome post.clerk (ready pass)

    module _ (does : PassView → K → PassView → K → Type 0) (plan : Plan) where
      -- A worker did at a station what the role of its pass's actor says. Without a station the clerk did its work.
      abbrev pub StationWorks : PassView → Post S K → Option S → PassView → Post S K → Option S → Type 0
      StationWorks old_pass old (Some from) new_pass new (Some to) =
          WorksAs plan (role_of plan old_pass.actor) new.stop old_pass (tells from) new_pass (tells to)
          × HasCause plan (role_of plan old_pass.actor) new.stop new_pass (tells from) (tells to) × (new.clerk ≡ old.clerk)
      StationWorks old_pass old (Some from) new_pass new None = ⊥
      StationWorks old_pass old None new_pass new (Some to) = ⊥
      StationWorks old_pass old None new_pass new None = (new.stop ≡ Done) × ClerkWorks does old_pass old.clerk new_pass new.clerk

      abbrev pub PostWorks : PassView → Post S K → PassView → Post S K → Type 0
      PostWorks old_pass old new_pass new = StationWorks old_pass old old.station new_pass new new.station
