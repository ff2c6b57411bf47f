use Rattle.std.proofs.Common.{[], refl, sym, ap, subst, append-nil}
use Rattle.ldm_serve.specs.AskedView.{to_asked}
use Rattle.ldm_serve.specs.declared.responded.Responded.TheVariants as responded
use Rattle.ldm_serve.specs.Respond.{to_qstat}
use Rattle.ldm_serve.specs.Response.{Response, Says, Refuses}
use Rattle.ldm_serve.specs.Responds.{Responds, stands}
use Rattle.ldm_serve.proofs.Giving.{given_at_once, keeps_pass}
use Rattle.ldm_serve.proofs.responding.answer_asked.Goals as goal

pub returns-in-Hiya-clause-responds : goal.returns-in-Hiya-clause-responds
returns-in-Hiya-clause-responds g c =
    let pass = c.args.pass.now in
    let clock = g.C.Clock.tells c.args.clock.now in
    subst (λ (r : Response). Responds c.hiya.result r (stands pass clock c.args.out.now.items) (stands pass clock c.hiya.new.out.items))
    (sym (ap (to_asked c.args.client.now.rules c.args.client.now.host) c.in-Hiya.is)) (c.hiya.ensures pass clock)

pub returns-in-Qstat-clause-kept : goal.returns-in-Qstat-clause-kept
returns-in-Qstat-clause-kept g c =
    let clock = g.C.Clock.tells c.args.clock.now in
    keeps_pass c.qstat.result (to_qstat c.args.client.now.rules c.args.client.now.host c.in-Qstat.xid) (stands c.args.pass.now clock c.args.out.now.items)
    (stands c.qstat.new.pass clock c.qstat.new.out.items) (c.qstat.ensures clock)

pub returns-in-Isalive-clause-responds : goal.returns-in-Isalive-clause-responds
returns-in-Isalive-clause-responds g c =
    let out = c.args.out.now.items in
    given_at_once c.args.pass.now (g.C.Clock.tells c.args.clock.now) (to_asked c.args.client.now.rules c.args.client.now.host c.args.asked) (Says []) responded.GoesOn [] out out
    (ap (to_asked c.args.client.now.rules c.args.client.now.host) c.in-Isalive.is) refl refl refl (sym (append-nil out))

pub returns-in-OutOfPlace-clause-responds : goal.returns-in-OutOfPlace-clause-responds
returns-in-OutOfPlace-clause-responds g c =
    let out = c.args.out.now.items in
    given_at_once c.args.pass.now (g.C.Clock.tells c.args.clock.now) (to_asked c.args.client.now.rules c.args.client.now.host c.args.asked) (Refuses []) responded.Refused [] out out
    (ap (to_asked c.args.client.now.rules c.args.client.now.host) c.in-OutOfPlace.is) refl refl refl (sym (append-nil out))
