use Rattle.std.proofs.Common.{◌≤◌, ◌∙◌, ℕ, [], length, Some, refl, sym, ap, subst}
use Rattle.ldm_outside.specs.Session.{session_tells}
use Rattle.ldm_rpc.specs.Streams.{Position}
use Rattle.ldm_serve.specs.Connection.{moment_of}
use Rattle.ldm_serve.specs.Rounds.{Runs}
use Rattle.ldm_serve.specs.Client.{Client}
use Rattle.ldm_serve.specs.ClientView.{ClientView, client_by}
use Rattle.ldm_session.specs.declared.gaps.TheConstants.{LONGEST_NAME}
use Rattle.ldm_serve.proofs.Coming.{begins-reads, memory-begins}
use Rattle.ldm_serve.proofs.connection.serve.Goals as goal

pub run-requires-clause-name : goal.run-requires-clause-name
run-requires-clause-name g c =
    subst (λ (view : ClientView). length view.host ≤ LONGEST_NAME) (sym (c.in-Ok.ensures.client ∙ c.of-client.ensures)) c.requires.name

pub returns-in-Ok-clause-counts : goal.returns-in-Ok-clause-counts
returns-in-Ok-clause-counts g c =
    let client : Client = record { rules = c.args.conf.now.policy; host = c.args.host.now; actor = c.args.pass.now.actor; arena = c.args.shared.now.arena } in
    let now = moment_of c.args.pass.now (session_tells g.K.Link.tells g.E.Sink.tells g.C.Clock.tells g.G.Gate.tells c.args.link.now c.args.log.now c.args.clock.now c.args.gate.now) in
    let new = moment_of c.run.new.pass (session_tells g.K.Link.tells g.E.Sink.tells g.C.Clock.tells g.G.Gate.tells c.run.new.link c.run.new.log c.run.new.clock c.run.new.gate) in
    let with_arena : ℕ → ClientView = λ arena. record { rules = c.args.conf.now.policy; host = c.args.host.now; arena = arena } in
    let whom = c.in-Ok.ensures.client ∙ c.of-client.ensures ∙ ap with_arena c.arena.ensures.is in
    let runs = subst (λ (p : Position). Runs (Some c.run.result) client p [] c.run.new.self.connection.serving now new) c.in-Ok.ensures.begins
    (subst (λ (view : ClientView). Runs (Some c.run.result) (client_by view client.actor) c.in-Ok.server.connection.serving [] c.run.new.self.connection.serving now new) whom c.run.ensures.runs) in
    let served = runs now (begins-reads client now refl) in served.counts

pub returns-in-Ok-clause-serves : goal.returns-in-Ok-clause-serves
returns-in-Ok-clause-serves g c =
    let client : Client = record { rules = c.args.conf.now.policy; host = c.args.host.now; actor = c.args.pass.now.actor; arena = c.args.shared.now.arena } in
    let now = moment_of c.args.pass.now (session_tells g.K.Link.tells g.E.Sink.tells g.C.Clock.tells g.G.Gate.tells c.args.link.now c.args.log.now c.args.clock.now c.args.gate.now) in
    let new = moment_of c.run.new.pass (session_tells g.K.Link.tells g.E.Sink.tells g.C.Clock.tells g.G.Gate.tells c.run.new.link c.run.new.log c.run.new.clock c.run.new.gate) in
    let with_arena : ℕ → ClientView = λ arena. record { rules = c.args.conf.now.policy; host = c.args.host.now; arena = arena } in
    let whom = c.in-Ok.ensures.client ∙ c.of-client.ensures ∙ ap with_arena c.arena.ensures.is in
    let runs = subst (λ (p : Position). Runs (Some c.run.result) client p [] c.run.new.self.connection.serving now new) c.in-Ok.ensures.begins
    (subst (λ (view : ClientView). Runs (Some c.run.result) (client_by view client.actor) c.in-Ok.server.connection.serving [] c.run.new.self.connection.serving now new) whom c.run.ensures.runs) in
    let served = runs now (begins-reads client now refl) in served.serves

pub returns-in-Err-clause-counts : goal.returns-in-Err-clause-counts
returns-in-Err-clause-counts g c =
    let client : Client = record { rules = c.args.conf.now.policy; host = c.args.host.now; actor = c.args.pass.now.actor; arena = c.args.shared.now.arena } in
    let now = moment_of c.args.pass.now (session_tells g.K.Link.tells g.E.Sink.tells g.C.Clock.tells g.G.Gate.tells c.args.link.now c.args.log.now c.args.clock.now c.args.gate.now) in
    let served = memory-begins client now refl c.requires.not_closed in served.counts

pub returns-in-Err-clause-serves : goal.returns-in-Err-clause-serves
returns-in-Err-clause-serves g c =
    let client : Client = record { rules = c.args.conf.now.policy; host = c.args.host.now; actor = c.args.pass.now.actor; arena = c.args.shared.now.arena } in
    let now = moment_of c.args.pass.now (session_tells g.K.Link.tells g.E.Sink.tells g.C.Clock.tells g.G.Gate.tells c.args.link.now c.args.log.now c.args.clock.now c.args.gate.now) in
    let served = memory-begins client now refl c.requires.not_closed in served.serves
