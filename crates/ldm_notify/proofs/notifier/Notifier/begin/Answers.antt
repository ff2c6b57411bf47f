use Rattle.std.proofs.Common.{[], List, ℕ, refl, subst}
use Rattle.ldm_relay.specs.declared.message.ClassAnswer.TheVariants as class_answer
use Rattle.ldm_shared.proofs.Made.{calls_some}
use Rattle.ldm_sender.specs.declared.standing.Standing.{Standing}
use Rattle.ldm_sender.specs.Acts.{situation_of}
use Rattle.ldm_sender.specs.Answering.{answer_deed}
use Rattle.ldm_sender.specs.Does.{moment_of, Does, Breaks}
use Rattle.ldm_sender.specs.Stopping.{StopsSending}
use Rattle.ldm_sender.specs.Opening.{Opened}
use Rattle.ldm_notify.specs.Notifier.{asked_by}
use Rattle.ldm_notify.specs.Course.{EndsTurns}
use Rattle.ldm_notify.proofs.Asked.{can_turn_still}
use Rattle.ldm_sender.proofs.Sent.{answer_broke_sent, turns_sent}
use Rattle.ldm_notify.specs.Turn.{notice_kind}
use Rattle.ldm_notify.proofs.Turning.{notice_lawful}
use Rattle.ldm_notify.proofs.notifier.Notifier.begin.Goals as goal

pub turns-requires-clause-ready : goal.turns-requires-clause-ready
turns-requires-clause-ready g c =
    can_turn_still c.args.self.now _ c.args.pass.now _ (record { reader = refl; to = refl; asked = refl })
    c.requires.begins.ready.cursor
    c.requires.begins.ready

pub returns-clause-notified : goal.returns-clause-notified
returns-clause-notified g c = λ missed first answer makes.
    let tells = g.K.Link.tells in
    let clock_tells = g.C.Clock.tells in
    let notifier = c.args.self.now in
    let asked = asked_by notifier in
    let k = notifier.reader.k in
    let pass = c.args.pass.now in
    let at = c.in-Ok.at in
    let link = tells c.args.link.now in
    let clock = clock_tells c.args.clock.now in
    let log = g.E.Sink.tells c.args.log.now in
    let gate = g.G.Gate.tells c.args.gate.now in
    let mid_link = tells c.answer_class.new.link in
    let mid_clock = clock_tells c.answer_class.new.clock in
    let mid_out = c.answer_class.new.out.items in
    let last = situation_of (moment_of c.turns.new.pass (tells c.turns.new.link)
    (clock_tells c.turns.new.clock) c.turns.new.self.out.items)
    (g.E.Sink.tells c.turns.new.log) (g.G.Gate.tells c.turns.new.gate) in
    let mid = moment_of pass mid_link mid_clock mid_out in
    let answers =
    subst (λ (o : List ℕ). Does [] (moment_of pass link clock o) mid (answer_deed notifier.xid class_answer.Ok at))
    c.requires.begins.none (c.in-Ok.ensures.answers pass) in
    let turned = subst (λ (n : ℕ). let s : Standing = record { next = n; sent_at = at }
    in EndsTurns c.turns.result asked k s (situation_of mid log gate) last)
    c.requires.begins.first c.turns.ensures.turns in
    turns_sent notice_kind notice_lawful asked c.turns.result missed k at first pass link mid_link clock mid_clock mid_out
    log gate last turned.0 [] c.requires.not_closed answer makes answers turned.1

pub returns-clause-cursor : goal.returns-clause-cursor
returns-clause-cursor g c = c.turns.ensures.turns.1.cursor

pub returns-in-Err-clause-notified : goal.returns-in-Err-clause-notified
returns-in-Err-clause-notified g c = λ missed first answer makes.
    let tells = g.K.Link.tells in
    let clock_tells = g.C.Clock.tells in
    let notifier = c.args.self.now in
    let asked = asked_by notifier in
    let pass = c.args.pass.now in
    let link = tells c.args.link.now in
    let clock = clock_tells c.args.clock.now in
    let new = moment_of pass (tells c.answer_class.new.link)
    (clock_tells c.answer_class.new.clock) c.answer_class.new.out.items in
    let answers = c.in-Err.ensures.answers pass in
    let none = c.requires.begins.none in
    let breaks =
    subst (λ (o : List ℕ). Breaks [] (moment_of pass link clock o) new
    (answer_deed notifier.xid class_answer.Ok answers.0)) none answers.1 in
    let stops = subst (λ (o : List ℕ). StopsSending c.in-Err.end (moment_of pass link clock o) new) none answers.2 in
    answer_broke_sent notice_kind notice_lawful asked c.in-Err.end (Opened missed notifier.reader.k) answers.0 first pass link
    (tells c.answer_class.new.link) clock
    (clock_tells c.answer_class.new.clock) c.answer_class.new.out.items (g.E.Sink.tells c.args.log.now)
    (g.G.Gate.tells c.args.gate.now)
    c.requires.not_closed answer (calls_some first pass _ makes) breaks stops
