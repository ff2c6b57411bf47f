use Rattle.std.proofs.Common.{◌≡◌, ◌≤◌, ℕ, ◌-◌, true, eqb, List, [], ◌∷◌, length, take, drop, Option, Ok, refl, sym, subst, ◌∙◌, arith}
use Rattle.std.specs.Prelude.{IfNone}
use Rattle.std.proofs.lemmas.Bool.{both_ways, ne_eqb}
use Rattle.ldm_outside.specs.Link.{IsNotClosed}
use Rattle.ldm_outside.specs.Session.{session_tells}
use Rattle.ldm_session.specs.declared.gaps.TheConstants.{LONGEST_NAME}
use Rattle.ldm_serve.specs.declared.end.ServeEnd.{ServeEnd}
use Rattle.ldm_serve.specs.Client.{Client}
use Rattle.ldm_serve.specs.ClientView.{ClientView, client_by}
use Rattle.ldm_serve.specs.Connection.{moment_of}
use Rattle.ldm_serve.specs.Reading.{EndsAt, ReadsCalls, end_by}
use Rattle.ldm_serve.specs.Rounds.{ReadsOn, Runs, Takes}
use Rattle.ldm_serve.proofs.Reaching.{same-actor, same-then}
use Rattle.ldm_serve.proofs.Turning.{ends-not, ends-run, rest-is, room-behind}
use Rattle.ldm_serve.proofs.taking.Connection.take.Goals as goal

is_empty : (bytes : List ℕ) → true ≡ eqb (length bytes) 0 → bytes ≡ []
is_empty [] e = refl
is_empty (byte ∷ bytes) e = absurd (both_ways (eqb (length (byte ∷ bytes)) 0) (ne_eqb (length (byte ∷ bytes)) 0 (omega arith)) (sym e))

pub loop-rest-init : goal.loop-rest-init
loop-rest-init g c = record {
  reads = λ begins here. here;
  between = c.requires.reads;
  client = refl;
  not_closed = c.requires.not_closed;
  same = refl;
}

pub take_some-requires-clause-name : goal.take_some-requires-clause-name
take_some-requires-clause-name g c = subst (λ (view : ClientView). length view.host ≤ LONGEST_NAME) (sym c.loop-rest.invariant.client) c.requires.name

pub loop-rest-preserved : goal.loop-rest-preserved
loop-rest-preserved g c =
    let client : Client = client_by c.args.self.now.client c.args.pass.now.actor in
    let cur = moment_of c.loop-rest.pass (session_tells g.K.Link.tells g.E.Sink.tells g.C.Clock.tells g.G.Gate.tells c.loop-rest.link c.loop-rest.log c.loop-rest.clock c.loop-rest.gate) in
    let new = moment_of c.take_some.new.pass (session_tells g.K.Link.tells g.E.Sink.tells g.C.Clock.tells g.G.Gate.tells c.take_some.new.link c.take_some.new.log c.take_some.new.clock c.take_some.new.gate) in
    let rest = c.loop-rest.rest.now in
    let n = c.in-Ok.count in
    let left = take (length rest - n) (drop n rest) in
    let left_is : left ≡ drop n rest = rest-is n rest left c.in-Ok.ensures.advances.most refl in
    let same : c.loop-rest.pass.actor ≡ client.actor = same-actor c.args.pass.now c.loop-rest.pass c.loop-rest.invariant.same in
    let takes = subst (λ (view : ClientView). Takes (Ok n) (client_by view client.actor) c.loop-rest.self.serving rest c.take_some.new.self.serving cur new) c.loop-rest.invariant.client
    (subst (λ (actor : ℕ). Takes (Ok n) (client_by c.loop-rest.self.client actor) c.loop-rest.self.serving rest c.take_some.new.self.serving cur new) same c.in-Ok.ensures.takes) in
    record {
      reads = λ begins here.
          subst (λ (behind : List ℕ). ReadsOn client begins c.take_some.new.self.serving behind new) (sym left_is) (takes begins (c.loop-rest.invariant.reads begins here));
      between = record {
        room = room-behind n c.loop-rest.self.serving rest c.take_some.new.self.serving left c.loop-rest.invariant.between.room c.in-Ok.ensures.advances left_is;
        empty = c.in-Ok.ensures.empty;
        going = c.in-Ok.ensures.going;
        unended = c.in-Ok.ensures.unended;
      };
      client = c.in-Ok.ensures.same ∙ c.loop-rest.invariant.client;
      not_closed = c.in-Ok.ensures.still_open;
      same = same-then c.args.pass.now c.loop-rest.pass c.take_some.new.pass c.loop-rest.invariant.same c.in-Ok.ensures.kept;
    }

pub returns-in-Err-clause-runs : goal.returns-in-Err-clause-runs
returns-in-Err-clause-runs g c =
    let client : Client = client_by c.args.self.now.client c.args.pass.now.actor in
    let begin = moment_of c.args.pass.now (session_tells g.K.Link.tells g.E.Sink.tells g.C.Clock.tells g.G.Gate.tells c.args.link.now c.args.log.now c.args.clock.now c.args.gate.now) in
    let cur = moment_of c.loop-rest.pass (session_tells g.K.Link.tells g.E.Sink.tells g.C.Clock.tells g.G.Gate.tells c.loop-rest.link c.loop-rest.log c.loop-rest.clock c.loop-rest.gate) in
    let new = moment_of c.take_some.new.pass (session_tells g.K.Link.tells g.E.Sink.tells g.C.Clock.tells g.G.Gate.tells c.take_some.new.link c.take_some.new.log c.take_some.new.clock c.take_some.new.gate) in
    let same : c.loop-rest.pass.actor ≡ client.actor = same-actor c.args.pass.now c.loop-rest.pass c.loop-rest.invariant.same in
    let rest = c.loop-rest.rest.now in
    let q = c.take_some.new.self.serving in
    let ends = subst (λ (view : ClientView). EndsAt (end_by c.in-Err.stop c.take_some.new.self.end) (client_by view client.actor) c.loop-rest.self.serving rest q cur new) c.loop-rest.invariant.client
    (subst (λ (actor : ℕ). EndsAt (end_by c.in-Err.stop c.take_some.new.self.end) (client_by c.loop-rest.self.client actor) c.loop-rest.self.serving rest q cur new) same c.in-Err.ensures.takes) in
    subst (λ (o : Option ServeEnd). Runs o client c.args.self.now.serving c.args.piece.now q begin new) (sym c.end_by.ensures)
    (ends-run client c.loop-rest.self.serving rest c.args.self.now.serving c.args.piece.now q q begin cur new (end_by c.in-Err.stop c.take_some.new.self.end)
    (λ begins here. c.loop-rest.invariant.reads begins here) ends)

pub returns-in-Err-clause-still_open : goal.returns-in-Err-clause-still_open
returns-in-Err-clause-still_open g c =
    let open_still = IsNotClosed (g.K.Link.tells c.take_some.new.link) in
    subst (λ (o : Option ServeEnd). IfNone o open_still) (sym c.end_by.ensures) (ends-not open_still _ _ _ _ _ _ (end_by c.in-Err.stop c.take_some.new.self.end) c.in-Err.ensures.takes)

pub returns-in-Err-clause-reads : goal.returns-in-Err-clause-reads
returns-in-Err-clause-reads g c =
    rw c.end_by.ensures (ends-not _ _ _ _ _ _ _ (end_by c.in-Err.stop c.take_some.new.self.end) c.in-Err.ensures.takes)

pub returns-in-Err-clause-same : goal.returns-in-Err-clause-same
returns-in-Err-clause-same g c = c.in-Err.ensures.same ∙ c.loop-rest.invariant.client

pub returns-clause-reads : goal.returns-clause-reads
returns-clause-reads g c =
    let between = c.loop-rest.invariant.between in
    let room = between.room in
    subst (λ (o : Option ServeEnd). IfNone o (ReadsCalls c.loop-rest.self 0)) (sym between.unended)
    (record { room = record { sound = room.sound; room = (let most = room.room in omega (arith, most)) }; empty = between.empty; going = between.going; unended = between.unended })

pub returns-clause-still_open : goal.returns-clause-still_open
returns-clause-still_open g c =
    subst (λ (o : Option ServeEnd). IfNone o (IsNotClosed (g.K.Link.tells c.loop-rest.link))) (sym c.loop-rest.invariant.between.unended) c.loop-rest.invariant.not_closed

pub returns-clause-runs : goal.returns-clause-runs
returns-clause-runs g c =
    let client : Client = client_by c.args.self.now.client c.args.pass.now.actor in
    let begin = moment_of c.args.pass.now (session_tells g.K.Link.tells g.E.Sink.tells g.C.Clock.tells g.G.Gate.tells c.args.link.now c.args.log.now c.args.clock.now c.args.gate.now) in
    let cur = moment_of c.loop-rest.pass (session_tells g.K.Link.tells g.E.Sink.tells g.C.Clock.tells g.G.Gate.tells c.loop-rest.link c.loop-rest.log c.loop-rest.clock c.loop-rest.gate) in
    subst (λ (o : Option ServeEnd). Runs o client c.args.self.now.serving c.args.piece.now c.loop-rest.self.serving begin cur) (sym c.loop-rest.invariant.between.unended)
    (λ begins here.
    subst (λ (rest : List ℕ). ReadsOn client begins c.loop-rest.self.serving rest cur) (is_empty c.loop-rest.rest.now c.loop-rest-test.ensures) (c.loop-rest.invariant.reads begins here))
