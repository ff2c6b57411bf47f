use Rattle.std.proofs.Common.{◌≡◌, ◌-◌, [], Option, sym, subst, refl, arith}
use Rattle.ldm_outside.specs.declared.io.Got.{Got}
use Rattle.ldm_outside.specs.Session.{session_tells}
use Rattle.ldm_session.specs.declared.limits.TheConstants.{LONGEST_STREAM}
use Rattle.ldm_serve.specs.declared.end.ServeEnd.{ServeEnd}
use Rattle.ldm_serve.specs.Connection.{moment_of}
use Rattle.ldm_serve.specs.Rounds.{Runs}
use Rattle.ldm_serve.specs.Client.{Client}
use Rattle.ldm_serve.specs.ClientView.{client_by}
use Rattle.ldm_serve.specs.Filling.{Fills}
use Rattle.ldm_serve.specs.declared.taking.Connection.{Connection}
use Rattle.ldm_serve.proofs.Coming.{limit-served}
use Rattle.ldm_serve.proofs.Receiving.{filled-ended, filled-failed, filled-reads}
use Rattle.ldm_serve.proofs.connection.Server.turn.Goals as goal

pub returns-then-room-eq0-clause-runs : goal.returns-then-room-eq0-clause-runs
returns-then-room-eq0-clause-runs g c =
    let client : Client = client_by c.args.self.now.connection.client c.args.pass.now.actor in
    let now = moment_of c.args.pass.now (session_tells g.K.Link.tells g.E.Sink.tells g.C.Clock.tells g.G.Gate.tells c.args.link.now c.args.log.now c.args.clock.now c.args.gate.now) in
    let p = c.args.self.now.connection.serving in
    let full : p.came ≡ LONGEST_STREAM = omega (arith, c.if-room-eq0.true, c.came-room.ensures, c.requires.reads.room.room) in
    subst (λ (o : Option ServeEnd). Runs o client p [] p now now) (sym c.end_by.ensures)
    (λ begins here. limit-served client begins p now here full c.requires.not_closed)

pub returns-in-Bytes-clause-runs : goal.returns-in-Bytes-clause-runs
returns-in-Bytes-clause-runs g c =
    let client : Client = client_by c.args.self.now.connection.client c.args.pass.now.actor in
    let now = moment_of c.args.pass.now (session_tells g.K.Link.tells g.E.Sink.tells g.C.Clock.tells g.G.Gate.tells c.args.link.now c.args.log.now c.args.clock.now c.args.gate.now) in
    let mid = moment_of c.args.pass.now (session_tells g.K.Link.tells g.E.Sink.tells g.C.Clock.tells g.G.Gate.tells c.fill.new.link c.args.log.now c.args.clock.now c.args.gate.now) in
    let room = LONGEST_STREAM - c.came-room.result in
    let p = c.args.self.now.connection.serving in
    let q = c.fill.new.self in
    let link = g.K.Link.tells c.fill.new.link in
    let came = subst (λ (got : Got). Fills got room p q (g.K.Link.tells c.args.link.now) link) c.in-Bytes.is c.in-Some.ensures.fills in
    subst (λ (o : Option ServeEnd). Runs o client p [] q now mid) (sym c.requires.reads.unended)
    (filled-reads client room p q now link c.in-Bytes.field-0 refl c.requires.reads.room.sound came)

pub returns-in-End-clause-runs : goal.returns-in-End-clause-runs
returns-in-End-clause-runs g c =
    let client : Client = client_by c.args.self.now.connection.client c.args.pass.now.actor in
    let now = moment_of c.args.pass.now (session_tells g.K.Link.tells g.E.Sink.tells g.C.Clock.tells g.G.Gate.tells c.args.link.now c.args.log.now c.args.clock.now c.args.gate.now) in
    let mid = moment_of c.args.pass.now (session_tells g.K.Link.tells g.E.Sink.tells g.C.Clock.tells g.G.Gate.tells c.fill.new.link c.args.log.now c.args.clock.now c.args.gate.now) in
    let room = LONGEST_STREAM - c.came-room.result in
    let p = c.args.self.now.connection.serving in
    let q = c.fill.new.self in
    let link = g.K.Link.tells c.fill.new.link in
    let came = subst (λ (got : Got). Fills got room p q (g.K.Link.tells c.args.link.now) link) c.in-End.is c.in-Some.ensures.fills in
    subst (λ (v : Connection). Runs v.end client p [] v.serving now mid) (sym c.end_here.ensures) (filled-ended client room p q now link came)

pub returns-in-Failed-clause-runs : goal.returns-in-Failed-clause-runs
returns-in-Failed-clause-runs g c =
    let client : Client = client_by c.args.self.now.connection.client c.args.pass.now.actor in
    let now = moment_of c.args.pass.now (session_tells g.K.Link.tells g.E.Sink.tells g.C.Clock.tells g.G.Gate.tells c.args.link.now c.args.log.now c.args.clock.now c.args.gate.now) in
    let mid = moment_of c.args.pass.now (session_tells g.K.Link.tells g.E.Sink.tells g.C.Clock.tells g.G.Gate.tells c.fill.new.link c.args.log.now c.args.clock.now c.args.gate.now) in
    let room = LONGEST_STREAM - c.came-room.result in
    let p = c.args.self.now.connection.serving in
    let q = c.fill.new.self in
    let link = g.K.Link.tells c.fill.new.link in
    let came = subst (λ (got : Got). Fills got room p q (g.K.Link.tells c.args.link.now) link) c.in-Failed.is c.in-Some.ensures.fills in
    subst (λ (o : Option ServeEnd). Runs o client p [] q now mid) (sym c.end_by-in-Failed.ensures) (filled-failed client room p q now link came)
