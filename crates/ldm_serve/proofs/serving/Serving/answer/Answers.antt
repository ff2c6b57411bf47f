use Rattle.std.proofs.Common.{◌≡◌, ℕ, true, eqb, List, [], ◌∷◌, length, refl, sym, subst, ◌∙◌, arith}
use Rattle.std.proofs.lemmas.Bool.{both_ways, ne_eqb}
use Rattle.ldm_serve.specs.Responds.{stands}
use Rattle.ldm_serve.specs.Client.{Client}
use Rattle.ldm_serve.specs.ClientView.{ClientView, client_by}
use Rattle.ldm_serve.specs.declared.serving.Answered.{Answered}
use Rattle.ldm_serve.specs.Turns.{Stops, TakesFirst}
use Rattle.ldm_serve.proofs.Running.{runs-none, runs-more, runs-all, same-client, stops-all}
use Rattle.ldm_serve.proofs.serving.Serving.answer.Goals as goal

is_empty : (bytes : List ℕ) → true ≡ eqb (length bytes) 0 → bytes ≡ []
is_empty [] e = refl
is_empty (byte ∷ bytes) e = absurd (both_ways (eqb (length (byte ∷ bytes)) 0) (ne_eqb (length (byte ∷ bytes)) 0 (omega arith)) (sym e))

pub loop-rest-init : goal.loop-rest-init
loop-rest-init g c =
    let client : Client = client_by c.args.client.now c.args.pass.now.actor in
    record {
      runs = runs-none client c.args.self.now c.args.bytes.now (stands c.args.pass.now (g.C.Clock.tells c.args.clock.now) c.args.out.now.items) refl
          (rw (← c.self.view_is) c.self.invariant) c.requires.sound;
      same = refl;
      going = c.requires.going;
    }

pub loop-rest-preserved : goal.loop-rest-preserved
loop-rest-preserved g c =
    let client : Client = client_by c.args.client.now c.args.pass.now.actor in
    let old = stands c.args.pass.now (g.C.Clock.tells c.args.clock.now) c.args.out.now.items in
    let cur = stands c.loop-rest.pass (g.C.Clock.tells c.loop-rest.clock) c.loop-rest.out.items in
    let new = stands c.answer_first.new.pass (g.C.Clock.tells c.answer_first.new.clock) c.answer_first.new.out.items in
    let same : cur.pass.actor ≡ client.actor = same-client client c.loop-rest.invariant.runs.out old cur refl c.loop-rest.invariant.runs.answers in
    let first = subst (λ (view : ClientView). TakesFirst (client_by view c.args.pass.now.actor) c.loop-rest.self c.loop-rest.rest.now c.in-Ok.count c.answer_first.new.self cur new) c.loop-rest.invariant.same
    (subst (λ (actor : ℕ). TakesFirst (client_by c.loop-rest.client actor) c.loop-rest.self c.loop-rest.rest.now c.in-Ok.count c.answer_first.new.self cur new) same c.in-Ok.ensures.turns) in
    record {
      runs = runs-more client c.args.self.now c.args.bytes.now old c.loop-rest.self c.loop-rest.rest.now cur c.loop-rest.invariant.runs c.in-Ok.count c.answer_first.new.self new first _ refl;
      same = c.in-Ok.ensures.same ∙ c.loop-rest.invariant.same;
      going = c.in-Ok.ensures.going;
    }

pub returns-in-Err-clause-serves : goal.returns-in-Err-clause-serves
returns-in-Err-clause-serves g c =
    let client : Client = client_by c.args.client.now c.args.pass.now.actor in
    let old = stands c.args.pass.now (g.C.Clock.tells c.args.clock.now) c.args.out.now.items in
    let cur = stands c.loop-rest.pass (g.C.Clock.tells c.loop-rest.clock) c.loop-rest.out.items in
    let new = stands c.answer_first.new.pass (g.C.Clock.tells c.answer_first.new.clock) c.answer_first.new.out.items in
    let same : cur.pass.actor ≡ client.actor = same-client client c.loop-rest.invariant.runs.out old cur refl c.loop-rest.invariant.runs.answers in
    stops-all client c.args.self.now c.args.bytes.now old c.loop-rest.self c.loop-rest.rest.now cur c.loop-rest.invariant.runs c.in-Err.stop c.answer_first.new.next c.answer_first.new.self new
    (subst (λ (view : ClientView). Stops c.in-Err.stop c.answer_first.new.next (client_by view c.args.pass.now.actor) c.loop-rest.self c.loop-rest.rest.now c.answer_first.new.self cur new) c.loop-rest.invariant.same
    (subst (λ (actor : ℕ). Stops c.in-Err.stop c.answer_first.new.next (client_by c.loop-rest.client actor) c.loop-rest.self c.loop-rest.rest.now c.answer_first.new.self cur new) same c.in-Err.ensures.turns))

pub returns-in-Err-clause-on : goal.returns-in-Err-clause-on
returns-in-Err-clause-on g c = λ is. absurd (subst (λ (stop : Answered). Stops stop c.answer_first.new.next (client_by c.loop-rest.client c.loop-rest.pass.actor) c.loop-rest.self c.loop-rest.rest.now c.answer_first.new.self
    (stands c.loop-rest.pass (g.C.Clock.tells c.loop-rest.clock) c.loop-rest.out.items) (stands c.answer_first.new.pass (g.C.Clock.tells c.answer_first.new.clock) c.answer_first.new.out.items)) is c.in-Err.ensures.turns)

pub returns-clause-serves : goal.returns-clause-serves
returns-clause-serves g c =
    let client : Client = client_by c.args.client.now c.args.pass.now.actor in
    let old = stands c.args.pass.now (g.C.Clock.tells c.args.clock.now) c.args.out.now.items in
    let cur = stands c.loop-rest.pass (g.C.Clock.tells c.loop-rest.clock) c.loop-rest.out.items in
    runs-all client c.args.self.now c.args.bytes.now old c.loop-rest.self c.loop-rest.rest.now cur c.loop-rest.invariant.runs (is_empty c.loop-rest.rest.now c.loop-rest-test.ensures)
