-- What each worker of a node is to do.
use Rattle.std.specs.Prelude.{ℕ, ◌-◌, List, ◌++◌, map, replicate, slice_index_or, Option, None}
use Rattle.std.specs.Option.{option_map}
use Rattle.ldm_types.specs.declared.signature.Signature.{Signature}
use Rattle.ldm_class.specs.Rules.{Rules}
use Rattle.ldm_conf.specs.Confs.{ConfView, RequestView}

-- What a node is told: whom it serves and what it takes, what it asks for and whom, how many workers let peers in, after how many
-- sessions such a worker is done, and the signature of the last
-- product of each request, in order, where one is known: it is of none where the list has ended.
pub record Plan : Type 0 where
  pub rules : Rules
  pub requests : List RequestView
  pub workers : ℕ
  pub sessions : ℕ
  pub lasts : List (Option (List ℕ))

abbrev pub plan_of : ConfView → (workers sessions : ℕ) → (lasts : List (Option (List ℕ))) → Plan
plan_of conf workers sessions lasts =
    record { rules = conf.policy; requests = conf.requests; workers = workers; sessions = sessions; lasts = lasts }

-- the signature of a last product, if there was one, as its bytes
abbrev pub last_view : Option Signature → Option (List ℕ)
last_view last = option_map (λ signature. signature.0) last

-- the last product behind which an actor asks first, if one is known
abbrev pub last_for : Plan → ℕ → Option (List ℕ)
last_for plan actor = slice_index_or plan.lasts (actor - plan.workers) None

pub data Role : Type 0 where
  -- it lets peers in and serves them
  LetsIn : Role
  -- it asks another node for what a request names
  Asks : (request : RequestView) → Role
  -- it does nothing
  Rests : Role

-- the roles of the workers that have a station, in the order of their actors
abbrev pub roles : Plan → List Role
roles plan = replicate plan.workers LetsIn ++ map Asks plan.requests

-- the role of an actor
abbrev pub role_of : Plan → ℕ → Role
role_of plan actor = slice_index_or (roles plan) actor Rests
