use Rattle.std.proofs.Common.{◌≡◌, ◌≤◌, ◌∙◌, ℕ, [], length, Option, None, refl, sym, subst}
use Rattle.std.specs.Prelude.{IfNone}
use Rattle.ldm_outside.specs.Link.{IsNotClosed}
use Rattle.ldm_outside.specs.Session.{session_tells}
use Rattle.ldm_session.specs.declared.gaps.TheConstants.{LONGEST_NAME}
use Rattle.ldm_serve.specs.declared.end.ServeEnd.{ServeEnd}
use Rattle.ldm_serve.specs.Connection.{moment_of}
use Rattle.ldm_serve.specs.Reading.{ReadsCalls}
use Rattle.ldm_serve.specs.Rounds.{Runs}
use Rattle.ldm_serve.specs.Client.{Client}
use Rattle.ldm_serve.specs.ClientView.{ClientView, client_by}
use Rattle.ldm_serve.proofs.Reaching.{same-actor, same-then}
use Rattle.ldm_serve.proofs.Turning.{none-written}
use Rattle.ldm_serve.proofs.connection.Server.run.Goals as goal

pub loop-init : goal.loop-init
loop-init g c = record {
  reads = λ begins here. here;
  between = c.requires.reads;
  client = refl;
  room = c.requires.room;
  not_closed = c.requires.not_closed;
  same = refl;
}

pub turn-requires-clause-name : goal.turn-requires-clause-name
turn-requires-clause-name g c = subst (λ (view : ClientView). length view.host ≤ LONGEST_NAME) (sym c.loop.invariant.client) c.requires.name

pub loop-preserved : goal.loop-preserved
loop-preserved g c =
    let client : Client = client_by c.args.self.now.connection.client c.args.pass.now.actor in
    let cur = moment_of c.loop.pass (session_tells g.K.Link.tells g.E.Sink.tells g.C.Clock.tells g.G.Gate.tells c.loop.link c.loop.log c.loop.clock c.loop.gate) in
    let new = moment_of c.turn.new.pass (session_tells g.K.Link.tells g.E.Sink.tells g.C.Clock.tells g.G.Gate.tells c.turn.new.link c.turn.new.log c.turn.new.clock c.turn.new.gate) in
    let same : c.loop.pass.actor ≡ client.actor = same-actor c.args.pass.now c.loop.pass c.loop.invariant.same in
    let end = c.turn.new.self.connection.end in
    let p = c.loop.self.connection.serving in
    let q = c.turn.new.self.connection.serving in
    let none : end ≡ None = none-written end (sym c.is_some.ensures ∙ c.if-is_some.false) in
    let runs = subst (λ (o : Option ServeEnd). Runs o client p [] q cur new) none
    (subst (λ (view : ClientView). Runs end (client_by view client.actor) p [] q cur new) c.loop.invariant.client
    (subst (λ (actor : ℕ). Runs end (client_by c.loop.self.connection.client actor) p [] q cur new) same c.turn.ensures.runs)) in
    record {
      reads = λ begins here. runs begins (c.loop.invariant.reads begins here);
      between = subst (λ (o : Option ServeEnd). IfNone o (ReadsCalls c.turn.new.self.connection 0)) none c.turn.ensures.reads;
      client = c.turn.ensures.same ∙ c.loop.invariant.client;
      room = c.turn.ensures.room;
      not_closed = subst (λ (o : Option ServeEnd). IfNone o (IsNotClosed (g.K.Link.tells c.turn.new.link))) none c.turn.ensures.still_open;
      same = same-then c.args.pass.now c.loop.pass c.turn.new.pass c.loop.invariant.same c.turn.ensures.kept;
    }

pub take_end-requires : goal.take_end-requires
take_end-requires g c = sym c.is_some.ensures ∙ c.if-is_some.true

pub returns-then-is_some-clause-runs : goal.returns-then-is_some-clause-runs
returns-then-is_some-clause-runs g c =
    let client : Client = client_by c.args.self.now.connection.client c.args.pass.now.actor in
    let cur = moment_of c.loop.pass (session_tells g.K.Link.tells g.E.Sink.tells g.C.Clock.tells g.G.Gate.tells c.loop.link c.loop.log c.loop.clock c.loop.gate) in
    let new = moment_of c.turn.new.pass (session_tells g.K.Link.tells g.E.Sink.tells g.C.Clock.tells g.G.Gate.tells c.turn.new.link c.turn.new.log c.turn.new.clock c.turn.new.gate) in
    let same : c.loop.pass.actor ≡ client.actor = same-actor c.args.pass.now c.loop.pass c.loop.invariant.same in
    let end = c.turn.new.self.connection.end in
    let p = c.loop.self.connection.serving in
    let q = c.turn.new.self.connection.serving in
    let runs = subst (λ (o : Option ServeEnd). Runs o client p [] q cur new) c.take_end.ensures
    (subst (λ (view : ClientView). Runs end (client_by view client.actor) p [] q cur new) c.loop.invariant.client
    (subst (λ (actor : ℕ). Runs end (client_by c.loop.self.connection.client actor) p [] q cur new) same c.turn.ensures.runs)) in
    λ begins here. runs begins (c.loop.invariant.reads begins here)
