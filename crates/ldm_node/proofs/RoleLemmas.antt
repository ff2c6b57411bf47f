-- The roles of workers.
use Rattle.std.proofs.Common.{◌≡◌, ℕ, ◌-◌, ◌<◌, ◌≤◌, List, Option, length, map, get_or, replicate, sym, ap, ◌∙◌, arith}
use Rattle.std.proofs.lemmas.List.{get_or-append_right, get_or-map, get_or-replicate, get_or_append_left, get_or_past, length-map, length-replicate}
use Rattle.ldm_conf.specs.declared.request.Request.{Request as CodeRequest}
use Rattle.ldm_conf.specs.Confs.{ConfView, RequestView, request_view}
use Rattle.ldm_node.specs.Roles.{Plan, LetsIn, Asks, Rests, plan_of, role_of}

pub lets_in : (plan : Plan) (actor : ℕ) → actor < plan.workers → role_of plan actor ≡ LetsIn
lets_in plan actor less =
    get_or_append_left (replicate plan.workers LetsIn) (map Asks plan.requests) Rests actor (omega (arith, less, length-replicate plan.workers LetsIn))
    ∙ get_or-replicate plan.workers actor LetsIn Rests less

past_doors : (plan : Plan) (actor : ℕ) → plan.workers ≤ actor → role_of plan actor ≡ get_or (map Asks plan.requests) (actor - plan.workers) Rests
past_doors plan actor past =
    get_or-append_right (replicate plan.workers LetsIn) (map Asks plan.requests) plan.workers actor Rests (length-replicate plan.workers LetsIn) past

pub asks : (plan : Plan) (actor : ℕ) (request : RequestView) → plan.workers ≤ actor → actor - plan.workers < length plan.requests
    → get_or plan.requests (actor - plan.workers) request ≡ request → role_of plan actor ≡ Asks request
asks plan actor request past less is =
    past_doors plan actor past ∙ get_or-map Asks plan.requests (actor - plan.workers) request Rests less ∙ ap Asks is

pub rests : (plan : Plan) (actor : ℕ) → plan.workers ≤ actor → length plan.requests ≤ actor - plan.workers → role_of plan actor ≡ Rests
rests plan actor past beyond =
    past_doors plan actor past ∙ get_or_past (map Asks plan.requests) (actor - plan.workers) Rests (omega (arith, length-map plan.requests Asks))

-- the role of one who has the request of a place of the configuration
pub asks_at : (conf : ConfView) (workers sessions : ℕ) (lasts : List (Option (List ℕ))) (items : List CodeRequest) (actor at : ℕ) (request : CodeRequest) → conf.requests ≡ map request_view items → workers ≤ actor
    → at ≡ actor - workers → at < length items → get_or items at request ≡ request → role_of (plan_of conf workers sessions lasts) actor ≡ Asks (request_view request)
asks_at conf workers sessions lasts items actor at request are past place less is =
    let view = request_view request in
    let there : get_or conf.requests at view ≡ view =
    ap (λ (rs : List RequestView). get_or rs at view) are ∙ get_or-map request_view items at request view less ∙ ap request_view is in
    asks (plan_of conf workers sessions lasts) actor view past (omega (arith, place, less, ap length are, length-map items request_view))
    (ap (λ (n : ℕ). get_or conf.requests n view) (sym place) ∙ there)
