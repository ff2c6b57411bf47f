use Rattle.std.proofs.Common.{◌≡◌, ◌∙◌, ◌-◌, ℕ, List, None, Option, map, get_or, subst, sym, ap, arith}
use Rattle.ldm_outside.specs.Station.{station_tells}
use Rattle.ldm_conf.specs.Confs.{conf_view, request_view}
use Rattle.ldm_node.specs.RequestMoments.{moment}
use Rattle.ldm_node.specs.RequestWorks.{Works}
use Rattle.ldm_node.specs.Roles.{Role, Asks, last_for, last_view, plan_of, role_of}
use Rattle.ldm_node.specs.Workers.{HasCause, WorksAs}
use Rattle.ldm_node.proofs.RoleLemmas.{asks_at}
use Rattle.ldm_node.proofs.staffing.Staffing.man.Goals as goal

pub returns-in-Some-clause-works : goal.returns-in-Some-clause-works
returns-in-Some-clause-works g c =
    let tells = station_tells g.D.Door.tells g.I.Dial.tells g.E.Sink.tells g.C.Clock.tells g.G.Gate.tells in
    let work = c.args.self.now in
    let plan = plan_of (conf_view work.conf.now) work.workers work.sessions (map last_view work.lasts.now) in
    let request = c.in-Some.request.now in
    let found = c.in-Some.ensures.lookup in
    let past = c.if-actor-self.false in
    let role : role_of plan c.args.pass.now.actor ≡ Asks (request_view request) =
    asks_at (conf_view work.conf.now) work.workers work.sessions (map last_view work.lasts.now) c.deref.result.now c.args.pass.now.actor (c.get-actor.result - work.workers) request
    (ap (map request_view) (sym c.deref.ensures.value)) (omega (arith, past, c.get-actor.ensures.value, c.actor.ensures)) (omega (arith, c.get-actor.ensures.value, c.actor.ensures))
    found.3.0 (sym found.1) in
    let first : last_view c.last_at-last.result ≡ last_for plan c.args.pass.now.actor =
    c.last_at-last.ensures ∙ ap (λ (place : ℕ). get_or (map last_view work.lasts.now) place None) (omega (arith, c.get-actor.ensures.value, c.actor.ensures)) in
    subst (λ (r : Role). WorksAs plan r c.work_request.result c.args.pass.now (tells c.args.station.now) c.work_request.new.pass (tells c.work_request.new.station)) (sym role)
    (subst
    (λ (last : Option (List ℕ)). (behind : Option (List ℕ)) × Works c.work_request.result (request_view request) (moment c.args.pass.now (tells c.args.station.now) last)
    (moment c.work_request.new.pass (tells c.work_request.new.station) behind)) first c.work_request.ensures.sessions)

pub returns-in-Some-clause-causes : goal.returns-in-Some-clause-causes
returns-in-Some-clause-causes g c =
    let tells = station_tells g.D.Door.tells g.I.Dial.tells g.E.Sink.tells g.C.Clock.tells g.G.Gate.tells in
    let work = c.args.self.now in
    let plan = plan_of (conf_view work.conf.now) work.workers work.sessions (map last_view work.lasts.now) in
    let request = c.in-Some.request.now in
    let found = c.in-Some.ensures.lookup in
    let past = c.if-actor-self.false in
    let role : role_of plan c.args.pass.now.actor ≡ Asks (request_view request) =
    asks_at (conf_view work.conf.now) work.workers work.sessions (map last_view work.lasts.now) c.deref.result.now c.args.pass.now.actor (c.get-actor.result - work.workers) request
    (ap (map request_view) (sym c.deref.ensures.value)) (omega (arith, past, c.get-actor.ensures.value, c.actor.ensures)) (omega (arith, c.get-actor.ensures.value, c.actor.ensures))
    found.3.0 (sym found.1) in
    subst (λ (r : Role). HasCause plan r c.work_request.result c.work_request.new.pass (tells c.args.station.now) (tells c.work_request.new.station)) (sym role)
    c.work_request.ensures.causes
