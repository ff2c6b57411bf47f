use Rattle.std.proofs.Common.{◌≡◌, ◌≤◌, ℕ, List, [], length, Option, take, drop, ap, sym, subst, ◌∙◌, arith, rules}
use Rattle.std.proofs.lemmas.List.{length-take-le}
use Rattle.ldm_outside.specs.Session.{session_tells}
use Rattle.ldm_downstream.specs.declared.limits.TheConstants.{LONGEST_PIECE}
use Rattle.ldm_serve.specs.declared.end.ServeEnd.{ServeEnd}
use Rattle.ldm_serve.specs.Connection.{moment_of}
use Rattle.ldm_serve.specs.Rounds.{ReadsOn, Runs}
use Rattle.ldm_serve.specs.Client.{Client}
use Rattle.ldm_serve.specs.ClientView.{client_by}
use Rattle.ldm_serve.specs.declared.taking.Connection.{Connection}
use Rattle.ldm_serve.proofs.Coming.{came-reads, ended-served, failed-served, runs-behind, take-into}
use Rattle.ldm_serve.proofs.connection.Server.take_piece.Goals as goal

pub returns-in-Bytes-clause-runs : goal.returns-in-Bytes-clause-runs
returns-in-Bytes-clause-runs g c =
    let client : Client = client_by c.args.self.now.connection.client c.args.pass.now.actor in
    let now = moment_of c.args.pass.now (session_tells g.K.Link.tells g.E.Sink.tells g.C.Clock.tells g.G.Gate.tells c.args.link.now c.args.log.now c.args.clock.now c.args.gate.now) in
    let mid = moment_of c.args.pass.now (session_tells g.K.Link.tells g.E.Sink.tells g.C.Clock.tells g.G.Gate.tells c.receive.new.link c.args.log.now c.args.clock.now c.args.gate.now) in
    let new = moment_of c.take.new.pass (session_tells g.K.Link.tells g.E.Sink.tells g.C.Clock.tells g.G.Gate.tells c.take.new.link c.take.new.log c.take.new.clock c.take.new.gate) in
    let p = c.args.self.now.connection.serving in
    let n = c.in-Bytes.count in
    let into = c.receive.new.piece in
    let items = c.args.self.now.piece.items in
    let came : n ≤ length into = c.in-Bytes.ensures.given.1 in
    let within : n ≤ c.args.self.now.piece.len = first_of (omega arith, search rules, grind arith) in
    let few : length (take n into) ≤ LONGEST_PIECE = omega (arith, length-take-le n into came, within, c.requires.room) in
    let same : take n c.deref.result.now ≡ take n into =
    ap (take n) c.deref.ensures.value ∙ take-into n c.args.self.now.piece.len into (drop (length into) items) within came in
    runs-behind c.take.new.self.end client p (take n c.deref.result.now) c.take.new.self.serving now mid new
    (λ begins here.
    subst (λ (bytes : List ℕ). ReadsOn client begins p bytes mid) (sym same)
    (came-reads client begins p now here into (g.K.Link.tells c.receive.new.link) c.in-Bytes.ensures.faults_kept c.in-Bytes.ensures.ends_kept n c.in-Bytes.ensures.given few))
    c.take.ensures.runs

pub returns-in-End-clause-runs : goal.returns-in-End-clause-runs
returns-in-End-clause-runs g c =
    let client : Client = client_by c.args.self.now.connection.client c.args.pass.now.actor in
    let now = moment_of c.args.pass.now (session_tells g.K.Link.tells g.E.Sink.tells g.C.Clock.tells g.G.Gate.tells c.args.link.now c.args.log.now c.args.clock.now c.args.gate.now) in
    let mid = moment_of c.args.pass.now (session_tells g.K.Link.tells g.E.Sink.tells g.C.Clock.tells g.G.Gate.tells c.receive.new.link c.args.log.now c.args.clock.now c.args.gate.now) in
    let p = c.args.self.now.connection.serving in
    subst (λ (v : Connection). Runs v.end client p [] v.serving now mid) (sym c.end_here.ensures)
    (λ begins here. ended-served client begins p now here c.receive.new.piece (g.K.Link.tells c.receive.new.link) c.in-End.ensures.faults_kept c.in-End.ensures.ends_kept
    c.in-End.ensures.given c.in-End.ensures.still_open)

pub returns-in-Failed-clause-runs : goal.returns-in-Failed-clause-runs
returns-in-Failed-clause-runs g c =
    let client : Client = client_by c.args.self.now.connection.client c.args.pass.now.actor in
    let now = moment_of c.args.pass.now (session_tells g.K.Link.tells g.E.Sink.tells g.C.Clock.tells g.G.Gate.tells c.args.link.now c.args.log.now c.args.clock.now c.args.gate.now) in
    let mid = moment_of c.args.pass.now (session_tells g.K.Link.tells g.E.Sink.tells g.C.Clock.tells g.G.Gate.tells c.receive.new.link c.args.log.now c.args.clock.now c.args.gate.now) in
    let p = c.args.self.now.connection.serving in
    subst (λ (o : Option ServeEnd). Runs o client p [] p now mid) (sym c.end_by.ensures)
    (λ begins here. failed-served client begins p now here c.receive.new.piece (g.K.Link.tells c.receive.new.link) c.in-Failed.ensures.faults_kept c.in-Failed.ensures.ends_kept
    c.in-Failed.ensures.given c.in-Failed.ensures.still_open)
