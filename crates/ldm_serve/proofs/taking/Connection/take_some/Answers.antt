use Rattle.std.proofs.Common.{◌≡◌, ℕ, ◌-◌, ◌≤◌, false, true, length, take, drop, Option, refl, ap, sym, subst, ◌∙◌, arith}
use Rattle.std.specs.Prelude.{IfNone, IfSome}
use Rattle.std.proofs.lemmas.Result.{err_from_is_err_and}
use Rattle.ldm_outside.specs.Session.{session_tells}
use Rattle.ldm_serve.specs.Responds.{HasMeaning, stands}
use Rattle.ldm_serve.specs.declared.serving.Answered.TheVariants as answered
use Rattle.ldm_serve.specs.Connection.{moment_of}
use Rattle.ldm_rpc.specs.Streams.{Position}
use Rattle.ldm_outside.specs.Link.{IsNotClosed}
use Rattle.ldm_serve.specs.declared.end.ServeEnd.{ServeEnd}
use Rattle.ldm_serve.specs.declared.taking.Connection.{Connection}
use Rattle.ldm_serve.specs.Becoming.{Goes}
use Rattle.ldm_serve.specs.ClientView.{ClientView, client_by}
use Rattle.ldm_serve.specs.Serve.{LeavesLink}
use Rattle.ldm_serve.specs.Rounds.{Advances, ReadsOn}
use Rattle.ldm_serve.specs.Client.{Client}
use Rattle.ldm_serve.proofs.Meaning.{responds_with_meaning}
use Rattle.ldm_serve.proofs.Reaching.{puts-all, puts-front, same-actor}
use Rattle.ldm_serve.proofs.Turning.{all-failed, ends-written, from-empty, long-served, memory-served, on-advances, on-reads, over-advances, over-failed, over-reads, over-served, rest-is, worn-served}
use Rattle.ldm_serve.proofs.taking.Connection.take_some.Goals as goal

pub answer-requires-clause-sound : goal.answer-requires-clause-sound
answer-requires-clause-sound g c = c.requires.reads.room.sound

pub answer-requires-clause-room : goal.answer-requires-clause-room
answer-requires-clause-room g c = let most = c.requires.reads.room.room in omega (arith, most)

pub answer-requires-clause-going : goal.answer-requires-clause-going
answer-requires-clause-going g c = c.requires.reads.going

pub returns-in_ok-send_gathered-in-On-clause-going : goal.returns-in_ok-send_gathered-in-On-clause-going
returns-in_ok-send_gathered-in-On-clause-going g c = c.answer.ensures.on c.in-On.is

pub returns-in_err-send_gathered-in-On-clause-takes : goal.returns-in_err-send_gathered-in-On-clause-takes
returns-in_err-send_gathered-in-On-clause-takes g c =
    let client : Client = client_by c.args.self.now.client c.args.pass.now.actor in
    let bytes = c.args.bytes.now in
    let p = c.args.self.now.serving in
    let q = c.answer.new.self in
    let now = moment_of c.args.pass.now (session_tells g.K.Link.tells g.E.Sink.tells g.C.Clock.tells g.G.Gate.tells c.args.link.now c.args.log.now c.args.clock.now c.args.gate.now) in
    let out = c.answer.new.out.items in
    let old_link = g.K.Link.tells c.args.link.now in
    let new_link = g.K.Link.tells c.send_gathered.new.link in
    let new = moment_of c.answer.new.pass (session_tells g.K.Link.tells g.E.Sink.tells g.C.Clock.tells g.G.Gate.tells c.send_gathered.new.link c.args.log.now c.answer.new.clock c.args.gate.now) in
    let after = stands c.answer.new.pass (g.C.Clock.tells c.answer.new.clock) out in
    let serves = from-empty answered.On c.answer.new.next client p bytes q c.args.pass.now (g.C.Clock.tells c.args.clock.now) c.args.self.now.out.items after c.requires.reads.empty c.in-On.ensures.serves in
    let failed = c.in_err-send_gathered-in-On.ensures in
    let puts = puts-front out old_link new_link failed.sent failed.faults_kept in
    let why = err_from_is_err_and c.from_residual.result c.from_residual.ensures.1 in
    rw (why.1, why.2)
    (λ begins here. all-failed client begins p bytes now here false out new puts.0 refl refl serves.answers refl puts.1 failed.still_open)

pub returns-in_ok-send_gathered-in-On-clause-advances : goal.returns-in_ok-send_gathered-in-On-clause-advances
returns-in_ok-send_gathered-in-On-clause-advances g c =
    let client : Client = client_by c.args.self.now.client c.args.pass.now.actor in
    let bytes = c.args.bytes.now in
    let p = c.args.self.now.serving in
    let q = c.answer.new.self in
    let now = moment_of c.args.pass.now (session_tells g.K.Link.tells g.E.Sink.tells g.C.Clock.tells g.G.Gate.tells c.args.link.now c.args.log.now c.args.clock.now c.args.gate.now) in
    let out = c.answer.new.out.items in
    let old_link = g.K.Link.tells c.args.link.now in
    let after = stands c.answer.new.pass (g.C.Clock.tells c.answer.new.clock) out in
    let serves = from-empty answered.On c.answer.new.next client p bytes q c.args.pass.now (g.C.Clock.tells c.args.clock.now) c.args.self.now.out.items after c.requires.reads.empty c.in-On.ensures.serves in
    on-advances client p bytes q _ _ c.requires.some serves

pub returns-in_ok-send_gathered-in-On-clause-takes : goal.returns-in_ok-send_gathered-in-On-clause-takes
returns-in_ok-send_gathered-in-On-clause-takes g c =
    let client : Client = client_by c.args.self.now.client c.args.pass.now.actor in
    let bytes = c.args.bytes.now in
    let p = c.args.self.now.serving in
    let q = c.answer.new.self in
    let now = moment_of c.args.pass.now (session_tells g.K.Link.tells g.E.Sink.tells g.C.Clock.tells g.G.Gate.tells c.args.link.now c.args.log.now c.args.clock.now c.args.gate.now) in
    let out = c.answer.new.out.items in
    let old_link = g.K.Link.tells c.args.link.now in
    let new_link = g.K.Link.tells c.send_gathered.new.link in
    let new = moment_of c.answer.new.pass (session_tells g.K.Link.tells g.E.Sink.tells g.C.Clock.tells g.G.Gate.tells c.send_gathered.new.link c.args.log.now c.answer.new.clock c.args.gate.now) in
    let after = stands c.answer.new.pass (g.C.Clock.tells c.answer.new.clock) out in
    let serves = from-empty answered.On c.answer.new.next client p bytes q c.args.pass.now (g.C.Clock.tells c.args.clock.now) c.args.self.now.out.items after c.requires.reads.empty c.in-On.ensures.serves in
    let sent = c.in_ok-send_gathered-in-On.ensures in
    let puts = puts-all out c.send_gathered.new.gathered.items old_link new_link sent.sent sent.empty in
    λ begins here. on-reads client begins p bytes now here true out new puts refl refl refl q serves

pub returns-in_err-send_gathered-in-TooLong-clause-takes : goal.returns-in_err-send_gathered-in-TooLong-clause-takes
returns-in_err-send_gathered-in-TooLong-clause-takes g c =
    let client : Client = client_by c.args.self.now.client c.args.pass.now.actor in
    let bytes = c.args.bytes.now in
    let p = c.args.self.now.serving in
    let q = c.answer.new.self in
    let now = moment_of c.args.pass.now (session_tells g.K.Link.tells g.E.Sink.tells g.C.Clock.tells g.G.Gate.tells c.args.link.now c.args.log.now c.args.clock.now c.args.gate.now) in
    let out = c.answer.new.out.items in
    let old_link = g.K.Link.tells c.args.link.now in
    let new_link = g.K.Link.tells c.send_gathered-in-TooLong.new.link in
    let new = moment_of c.answer.new.pass (session_tells g.K.Link.tells g.E.Sink.tells g.C.Clock.tells g.G.Gate.tells c.send_gathered-in-TooLong.new.link c.args.log.now c.answer.new.clock c.args.gate.now) in
    let after = stands c.answer.new.pass (g.C.Clock.tells c.answer.new.clock) out in
    let serves = from-empty (answered.TooLong c.in-TooLong.at) c.answer.new.next client p bytes q c.args.pass.now (g.C.Clock.tells c.args.clock.now) c.args.self.now.out.items after c.requires.reads.empty c.in-TooLong.ensures.serves in
    let failed = c.in_err-send_gathered-in-TooLong.ensures in
    let puts = puts-front out old_link new_link failed.sent failed.faults_kept in
    let why = err_from_is_err_and c.from_residual-in_err-send_gathered-in-TooLong.result c.from_residual-in_err-send_gathered-in-TooLong.ensures.1 in
    rw (why.1, why.2)
    (λ begins here. all-failed client begins p bytes now here false out new puts.0 refl refl serves.answers refl puts.1 failed.still_open)

pub returns-in_ok-send_gathered-in-TooLong-clause-takes : goal.returns-in_ok-send_gathered-in-TooLong-clause-takes
returns-in_ok-send_gathered-in-TooLong-clause-takes g c =
    let client : Client = client_by c.args.self.now.client c.args.pass.now.actor in
    let bytes = c.args.bytes.now in
    let p = c.args.self.now.serving in
    let q = c.answer.new.self in
    let now = moment_of c.args.pass.now (session_tells g.K.Link.tells g.E.Sink.tells g.C.Clock.tells g.G.Gate.tells c.args.link.now c.args.log.now c.args.clock.now c.args.gate.now) in
    let out = c.answer.new.out.items in
    let old_link = g.K.Link.tells c.args.link.now in
    let new_link = g.K.Link.tells c.send_gathered-in-TooLong.new.link in
    let new = moment_of c.answer.new.pass (session_tells g.K.Link.tells g.E.Sink.tells g.C.Clock.tells g.G.Gate.tells c.send_gathered-in-TooLong.new.link c.args.log.now c.answer.new.clock c.args.gate.now) in
    let after = stands c.answer.new.pass (g.C.Clock.tells c.answer.new.clock) out in
    let serves = from-empty (answered.TooLong c.in-TooLong.at) c.answer.new.next client p bytes q c.args.pass.now (g.C.Clock.tells c.args.clock.now) c.args.self.now.out.items after c.requires.reads.empty c.in-TooLong.ensures.serves in
    let sent = c.in_ok-send_gathered-in-TooLong.ensures in
    let puts = puts-all out c.send_gathered-in-TooLong.new.gathered.items old_link new_link sent.sent sent.empty in
    λ begins here. long-served client begins p bytes now here true out new puts refl refl refl c.in-TooLong.at serves sent.still_open

pub returns-in-Worn-clause-takes : goal.returns-in-Worn-clause-takes
returns-in-Worn-clause-takes g c =
    let client : Client = client_by c.args.self.now.client c.args.pass.now.actor in
    let bytes = c.args.bytes.now in
    let p = c.args.self.now.serving in
    let q = c.answer.new.self in
    let now = moment_of c.args.pass.now (session_tells g.K.Link.tells g.E.Sink.tells g.C.Clock.tells g.G.Gate.tells c.args.link.now c.args.log.now c.args.clock.now c.args.gate.now) in
    let out = c.answer.new.out.items in
    let old_link = g.K.Link.tells c.args.link.now in
    let after = stands c.answer.new.pass (g.C.Clock.tells c.answer.new.clock) out in
    let serves = from-empty answered.Worn c.answer.new.next client p bytes q c.args.pass.now (g.C.Clock.tells c.args.clock.now) c.args.self.now.out.items after c.requires.reads.empty c.in-Worn.ensures.serves in
    λ begins here. worn-served client begins p bytes now here c.answer.new.pass (g.C.Clock.tells c.answer.new.clock) out serves c.requires.not_closed

pub returns-in-OutOfMemory-clause-takes : goal.returns-in-OutOfMemory-clause-takes
returns-in-OutOfMemory-clause-takes g c =
    let client : Client = client_by c.args.self.now.client c.args.pass.now.actor in
    let bytes = c.args.bytes.now in
    let p = c.args.self.now.serving in
    let q = c.answer.new.self in
    let now = moment_of c.args.pass.now (session_tells g.K.Link.tells g.E.Sink.tells g.C.Clock.tells g.G.Gate.tells c.args.link.now c.args.log.now c.args.clock.now c.args.gate.now) in
    let out = c.answer.new.out.items in
    let old_link = g.K.Link.tells c.args.link.now in
    let after = stands c.answer.new.pass (g.C.Clock.tells c.answer.new.clock) out in
    let serves = from-empty answered.OutOfMemory c.answer.new.next client p bytes q c.args.pass.now (g.C.Clock.tells c.args.clock.now) c.args.self.now.out.items after c.requires.reads.empty c.in-OutOfMemory.ensures.serves in
    λ begins here. memory-served client begins p bytes now here c.answer.new.pass (g.C.Clock.tells c.answer.new.clock) out serves c.requires.not_closed

pub returns-in_err-send_gathered-in-Over-clause-takes : goal.returns-in_err-send_gathered-in-Over-clause-takes
returns-in_err-send_gathered-in-Over-clause-takes g c =
    let client : Client = client_by c.args.self.now.client c.args.pass.now.actor in
    let bytes = c.args.bytes.now in
    let p = c.args.self.now.serving in
    let q = c.answer.new.self in
    let now = moment_of c.args.pass.now (session_tells g.K.Link.tells g.E.Sink.tells g.C.Clock.tells g.G.Gate.tells c.args.link.now c.args.log.now c.args.clock.now c.args.gate.now) in
    let out = c.answer.new.out.items in
    let old_link = g.K.Link.tells c.args.link.now in
    let new_link = g.K.Link.tells c.send_gathered-in-Over.new.link in
    let new = moment_of c.answer.new.pass (session_tells g.K.Link.tells g.E.Sink.tells g.C.Clock.tells g.G.Gate.tells c.send_gathered-in-Over.new.link c.args.log.now c.answer.new.clock c.args.gate.now) in
    let after = stands c.answer.new.pass (g.C.Clock.tells c.answer.new.clock) out in
    let serves = from-empty (answered.Over c.in-Over.at) c.answer.new.next client p bytes q c.args.pass.now (g.C.Clock.tells c.args.clock.now) c.args.self.now.out.items after c.requires.reads.empty c.in-Over.ensures.serves in
    let failed = c.in_err-send_gathered-in-Over.ensures in
    let puts = puts-front out old_link new_link failed.sent failed.faults_kept in
    let why = err_from_is_err_and c.from_residual-in_err-send_gathered-in-Over.result c.from_residual-in_err-send_gathered-in-Over.ensures.1 in
    rw (why.1, why.2)
    (λ begins here. over-failed client begins p bytes now here false out new puts.0 refl refl c.answer.new.next c.in-Over.at q serves refl puts.1 failed.still_open)

pub slice_bounds-ahead-count : goal.slice_bounds-ahead-count
slice_bounds-ahead-count g c =
    let client : Client = client_by c.args.self.now.client c.args.pass.now.actor in
    let bytes = c.args.bytes.now in
    let p = c.args.self.now.serving in
    let q = c.answer.new.self in
    let out = c.answer.new.out.items in
    let after = stands c.answer.new.pass (g.C.Clock.tells c.answer.new.clock) out in
    let serves = from-empty (answered.Over c.in-Over.at) c.answer.new.next client p bytes q c.args.pass.now (g.C.Clock.tells c.args.clock.now) c.args.self.now.out.items after c.requires.reads.empty c.in-Over.ensures.serves in
    let came = c.came.result in
    let before = c.came-before.result in
    let n_is : came - before ≡ q.came - p.came = ap (λ (m : ℕ). m - before) c.came.ensures ∙ ap (λ (m : ℕ). q.came - m) c.came-before.ensures in
    let advances = over-advances client c.answer.new.next c.in-Over.at p bytes q _ _ serves in
    let most : came - before ≤ length bytes = omega (arith, n_is, advances.most) in
    most

pub slice_bounds-ahead-start : goal.slice_bounds-ahead-start
slice_bounds-ahead-start g c =
    let client : Client = client_by c.args.self.now.client c.args.pass.now.actor in
    let bytes = c.args.bytes.now in
    let p = c.args.self.now.serving in
    let q = c.answer.new.self in
    let out = c.answer.new.out.items in
    let after = stands c.answer.new.pass (g.C.Clock.tells c.answer.new.clock) out in
    let serves = from-empty (answered.Over c.in-Over.at) c.answer.new.next client p bytes q c.args.pass.now (g.C.Clock.tells c.args.clock.now) c.args.self.now.out.items after c.requires.reads.empty c.in-Over.ensures.serves in
    let came = c.came.result in
    let before = c.came-before.result in
    let n_is : came - before ≡ q.came - p.came = ap (λ (m : ℕ). m - before) c.came.ensures ∙ ap (λ (m : ℕ). q.came - m) c.came-before.ensures in
    let advances = over-advances client c.answer.new.next c.in-Over.at p bytes q _ _ serves in
    let most : came - before ≤ length bytes = omega (arith, n_is, advances.most) in
    most

pub go_on-requires-clause-means : goal.go_on-requires-clause-means
go_on-requires-clause-means g c =
    let client : Client = client_by c.args.self.now.client c.args.pass.now.actor in
    let bytes = c.args.bytes.now in
    let p = c.args.self.now.serving in
    let q = c.answer.new.self in
    let out = c.answer.new.out.items in
    let after = stands c.answer.new.pass (g.C.Clock.tells c.answer.new.clock) out in
    let serves = from-empty (answered.Over c.in-Over.at) c.answer.new.next client p bytes q c.args.pass.now (g.C.Clock.tells c.args.clock.now) c.args.self.now.out.items after c.requires.reads.empty c.in-Over.ensures.serves in
    subst HasMeaning (sym serves.ends.next_is) (responds_with_meaning client serves.ends.step.placed.content)

pub go_on-requires-clause-over : goal.go_on-requires-clause-over
go_on-requires-clause-over g c =
    let client : Client = client_by c.args.self.now.client c.args.pass.now.actor in
    let bytes = c.args.bytes.now in
    let p = c.args.self.now.serving in
    let q = c.answer.new.self in
    let out = c.answer.new.out.items in
    let after = stands c.answer.new.pass (g.C.Clock.tells c.answer.new.clock) out in
    let serves = from-empty (answered.Over c.in-Over.at) c.answer.new.next client p bytes q c.args.pass.now (g.C.Clock.tells c.args.clock.now) c.args.self.now.out.items after c.requires.reads.empty c.in-Over.ensures.serves in
    serves.ends.over

pub returns-in-Some-clause-takes : goal.returns-in-Some-clause-takes
returns-in-Some-clause-takes g c =
    let client : Client = client_by c.args.self.now.client c.args.pass.now.actor in
    let bytes = c.args.bytes.now in
    let p = c.args.self.now.serving in
    let q = c.answer.new.self in
    let out = c.answer.new.out.items in
    let after = stands c.answer.new.pass (g.C.Clock.tells c.answer.new.clock) out in
    let serves = from-empty (answered.Over c.in-Over.at) c.answer.new.next client p bytes q c.args.pass.now (g.C.Clock.tells c.args.clock.now) c.args.self.now.out.items after c.requires.reads.empty c.in-Over.ensures.serves in
    let came = c.came.result in
    let before = c.came-before.result in
    let n_is : came - before ≡ q.came - p.came = ap (λ (m : ℕ). m - before) c.came.ensures ∙ ap (λ (m : ℕ). q.came - m) c.came-before.ensures in
    let advances = over-advances client c.answer.new.next c.in-Over.at p bytes q _ _ serves in
    let most : came - before ≤ length bytes = omega (arith, n_is, advances.most) in
    let now = moment_of c.args.pass.now (session_tells g.K.Link.tells g.E.Sink.tells g.C.Clock.tells g.G.Gate.tells c.args.link.now c.args.log.now c.args.clock.now c.args.gate.now) in
    let mid = moment_of c.answer.new.pass (session_tells g.K.Link.tells g.E.Sink.tells g.C.Clock.tells g.G.Gate.tells c.send_gathered-in-Over.new.link c.args.log.now c.answer.new.clock c.args.gate.now) in
    let new = moment_of c.go_on.new.pass (session_tells g.K.Link.tells g.E.Sink.tells g.C.Clock.tells g.G.Gate.tells c.go_on.new.link c.go_on.new.log c.go_on.new.clock c.go_on.new.gate) in
    let sent = c.in_ok-send_gathered-in-Over.ensures in
    let puts = puts-all out c.send_gathered-in-Over.new.gathered.items (g.K.Link.tells c.args.link.now) (g.K.Link.tells c.send_gathered-in-Over.new.link) sent.sent sent.empty in
    let same : c.answer.new.pass.actor ≡ client.actor = same-actor c.args.pass.now c.answer.new.pass c.answer.ensures.kept in
    let ahead = take (length bytes - (came - before)) (drop (came - before) bytes) in
    let ahead_is : ahead ≡ drop (q.came - p.came) bytes = rest-is (came - before) bytes ahead most refl ∙ ap (λ (k : ℕ). drop k bytes) n_is in
    let goes = subst (λ (view : ClientView). Goes c.go_on.new.self.end c.answer.new.next c.in-Over.at (client_by view c.answer.new.pass.actor) ahead mid new) c.answer.ensures.same c.go_on.ensures.goes in
    let left_link = g.K.Link.tells c.go_on.new.link in
    ends-written client p bytes c.go_on.new.self.serving now new c.go_on.new.self.end _ c.in-Some.is (λ end is begins here.
    over-served client begins p bytes now mid new here out puts refl refl c.answer.new.next c.in-Over.at q serves c.go_on.ensures.counts c.answer.new.pass.actor same
    ahead ahead_is end (subst (λ (o : Option ServeEnd). Goes o c.answer.new.next c.in-Over.at (client_by c.args.self.now.client c.answer.new.pass.actor) ahead mid new) is goes)
    (subst (λ (o : Option ServeEnd). IfSome o (λ e. LeavesLink e left_link)) is c.go_on.ensures.left))

pub returns-in-Some-clause-same : goal.returns-in-Some-clause-same
returns-in-Some-clause-same g c = ap (λ (v : Connection). v.client) c.go_on.ensures.stays ∙ c.answer.ensures.same

pub returns-in-None-clause-advances : goal.returns-in-None-clause-advances
returns-in-None-clause-advances g c =
    let client : Client = client_by c.args.self.now.client c.args.pass.now.actor in
    let bytes = c.args.bytes.now in
    let p = c.args.self.now.serving in
    let q = c.answer.new.self in
    let out = c.answer.new.out.items in
    let after = stands c.answer.new.pass (g.C.Clock.tells c.answer.new.clock) out in
    let serves = from-empty (answered.Over c.in-Over.at) c.answer.new.next client p bytes q c.args.pass.now (g.C.Clock.tells c.args.clock.now) c.args.self.now.out.items after c.requires.reads.empty c.in-Over.ensures.serves in
    let came = c.came.result in
    let before = c.came-before.result in
    let n_is : came - before ≡ q.came - p.came = ap (λ (m : ℕ). m - before) c.came.ensures ∙ ap (λ (m : ℕ). q.came - m) c.came-before.ensures in
    let advances = over-advances client c.answer.new.next c.in-Over.at p bytes q _ _ serves in
    let most : came - before ≤ length bytes = omega (arith, n_is, advances.most) in
    subst (λ (v : Position). Advances (came - before) p bytes v) (sym (ap (λ (v : Connection). v.serving) c.go_on.ensures.stays)) (subst (λ (n : ℕ). Advances n p bytes q) (sym n_is) advances)

pub returns-in-None-clause-takes : goal.returns-in-None-clause-takes
returns-in-None-clause-takes g c =
    let client : Client = client_by c.args.self.now.client c.args.pass.now.actor in
    let bytes = c.args.bytes.now in
    let p = c.args.self.now.serving in
    let q = c.answer.new.self in
    let out = c.answer.new.out.items in
    let after = stands c.answer.new.pass (g.C.Clock.tells c.answer.new.clock) out in
    let serves = from-empty (answered.Over c.in-Over.at) c.answer.new.next client p bytes q c.args.pass.now (g.C.Clock.tells c.args.clock.now) c.args.self.now.out.items after c.requires.reads.empty c.in-Over.ensures.serves in
    let came = c.came.result in
    let before = c.came-before.result in
    let n_is : came - before ≡ q.came - p.came = ap (λ (m : ℕ). m - before) c.came.ensures ∙ ap (λ (m : ℕ). q.came - m) c.came-before.ensures in
    let advances = over-advances client c.answer.new.next c.in-Over.at p bytes q _ _ serves in
    let most : came - before ≤ length bytes = omega (arith, n_is, advances.most) in
    let now = moment_of c.args.pass.now (session_tells g.K.Link.tells g.E.Sink.tells g.C.Clock.tells g.G.Gate.tells c.args.link.now c.args.log.now c.args.clock.now c.args.gate.now) in
    let mid = moment_of c.answer.new.pass (session_tells g.K.Link.tells g.E.Sink.tells g.C.Clock.tells g.G.Gate.tells c.send_gathered-in-Over.new.link c.args.log.now c.answer.new.clock c.args.gate.now) in
    let new = moment_of c.go_on.new.pass (session_tells g.K.Link.tells g.E.Sink.tells g.C.Clock.tells g.G.Gate.tells c.go_on.new.link c.go_on.new.log c.go_on.new.clock c.go_on.new.gate) in
    let sent = c.in_ok-send_gathered-in-Over.ensures in
    let puts = puts-all out c.send_gathered-in-Over.new.gathered.items (g.K.Link.tells c.args.link.now) (g.K.Link.tells c.send_gathered-in-Over.new.link) sent.sent sent.empty in
    let same : c.answer.new.pass.actor ≡ client.actor = same-actor c.args.pass.now c.answer.new.pass c.answer.ensures.kept in
    let ahead = take (length bytes - (came - before)) (drop (came - before) bytes) in
    let goes = subst (λ (view : ClientView). Goes c.go_on.new.self.end c.answer.new.next c.in-Over.at (client_by view c.answer.new.pass.actor) ahead mid new) c.answer.ensures.same c.go_on.ensures.goes in
    let narrows = subst (λ (o : Option ServeEnd). Goes o c.answer.new.next c.in-Over.at (client_by c.args.self.now.client c.answer.new.pass.actor) ahead mid new) c.in-None.is goes in
    λ begins here.
    subst (λ (v : Position). ReadsOn client begins v (drop (came - before) bytes) new) (sym (ap (λ (v : Connection). v.serving) c.go_on.ensures.stays))
    (subst (λ (n : ℕ). ReadsOn client begins q (drop n bytes) new) (sym n_is)
    (over-reads client begins p bytes now mid new here out puts refl refl c.answer.new.next c.in-Over.at q serves c.go_on.ensures.counts c.answer.new.pass.actor same narrows))

pub returns-in-None-clause-same : goal.returns-in-None-clause-same
returns-in-None-clause-same g c = ap (λ (v : Connection). v.client) c.go_on.ensures.stays ∙ c.answer.ensures.same

pub returns-in-None-clause-still_open : goal.returns-in-None-clause-still_open
returns-in-None-clause-still_open g c =
    subst (λ (o : Option ServeEnd). IfNone o (IsNotClosed (g.K.Link.tells c.go_on.new.link))) c.in-None.is c.go_on.ensures.still_open

pub returns-in-None-clause-empty : goal.returns-in-None-clause-empty
returns-in-None-clause-empty g c = ap (λ (v : Connection). v.out.items) c.go_on.ensures.stays ∙ c.in_ok-send_gathered-in-Over.ensures.empty

pub returns-in-None-clause-going : goal.returns-in-None-clause-going
returns-in-None-clause-going g c = ap (λ (v : Connection). v.next) c.go_on.ensures.stays

pub returns-in-None-clause-unended : goal.returns-in-None-clause-unended
returns-in-None-clause-unended g c = c.in-None.is
