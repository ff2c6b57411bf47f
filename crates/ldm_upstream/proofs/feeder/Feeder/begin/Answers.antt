use Rattle.std.proofs.Common.{[], List, ℕ, refl, subst}
use Rattle.ldm_relay.specs.declared.message.ClassAnswer.TheVariants as class_answer
use Rattle.ldm_shared.proofs.Made.{calls_none, calls_some}
use Rattle.ldm_sender.specs.declared.standing.Standing.{Standing}
use Rattle.ldm_sender.specs.Acts.{is_whole, situation_of}
use Rattle.ldm_sender.specs.Answering.{answer_deed}
use Rattle.ldm_sender.specs.Does.{moment_of, Does, Breaks}
use Rattle.ldm_sender.specs.Stopping.{StopsSending}
use Rattle.ldm_sender.specs.Opening.{Opened}
use Rattle.ldm_upstream.specs.Feeder.{asked_by}
use Rattle.ldm_upstream.specs.Course.{EndsTurns}
use Rattle.ldm_upstream.proofs.Asked.{can_turn_still}
use Rattle.ldm_sender.proofs.Steps.{calls_at_end}
use Rattle.ldm_upstream.proofs.Fed.{turns_fed, answer_broke_fed}
use Rattle.ldm_upstream.proofs.feeder.Feeder.begin.Goals as goal

pub turns-requires-clause-ready : goal.turns-requires-clause-ready
turns-requires-clause-ready g c =
    can_turn_still c.args.self.now _ c.args.pass.now _ (record { reader = refl; to = refl; asked = refl })
    c.requires.begins.ready.cursor
    c.requires.begins.ready

pub returns-clause-fed : goal.returns-clause-fed
returns-clause-fed g c = λ missed first ahead answer makes heard.
    let tells = g.K.Link.tells in
    let clock_tells = g.C.Clock.tells in
    let feeder = c.args.self.now in
    let asked = asked_by feeder in
    let k = feeder.reader.k in
    let pass = c.args.pass.now in
    let at = c.in-Ok.at in
    let link = tells c.args.link.now in
    let clock = clock_tells c.args.clock.now in
    let log = g.E.Sink.tells c.args.log.now in
    let gate = g.G.Gate.tells c.args.gate.now in
    let mid_link = tells c.answer_class.new.link in
    let mid_clock = clock_tells c.answer_class.new.clock in
    let mid_out = c.answer_class.new.out.items in
    let last = situation_of (moment_of c.turns.new.pass (tells c.turns.new.link)
    (clock_tells c.turns.new.clock) c.turns.new.self.out.items)
    (g.E.Sink.tells c.turns.new.log) (g.G.Gate.tells c.turns.new.gate) in
    let mid = moment_of pass mid_link mid_clock mid_out in
    let answers =
    subst (λ (o : List ℕ). Does [] (moment_of pass link clock o) mid (answer_deed feeder.xid class_answer.Ok at))
    c.requires.begins.none (c.in-Ok.ensures.answers pass) in
    let turned = subst (λ (n : ℕ). let s : Standing = record { next = n; sent_at = at }
    in EndsTurns c.turns.result asked k s (situation_of mid log gate) last feeder.replies)
    c.requires.begins.first c.turns.ensures.turns in
    turns_fed c.turns.result asked missed k at first pass link mid_link clock mid_clock mid_out log gate last
    feeder.replies ahead c.requires.not_closed
    answer makes answers turned heard

pub returns-clause-cursor : goal.returns-clause-cursor
returns-clause-cursor g c = c.turns.ensures.turns.ends.cursor

pub returns-in-Err-clause-fed : goal.returns-in-Err-clause-fed
returns-in-Err-clause-fed g c = λ missed first ahead answer makes heard.
    let tells = g.K.Link.tells in
    let clock_tells = g.C.Clock.tells in
    let feeder = c.args.self.now in
    let asked = asked_by feeder in
    let pass = c.args.pass.now in
    let link = tells c.args.link.now in
    let clock = clock_tells c.args.clock.now in
    let new = moment_of pass (tells c.answer_class.new.link)
    (clock_tells c.answer_class.new.clock) c.answer_class.new.out.items in
    let answers = c.in-Err.ensures.answers pass in
    let none = c.requires.begins.none in
    let breaks =
    subst (λ (o : List ℕ). Breaks [] (moment_of pass link clock o) new
    (answer_deed feeder.xid class_answer.Ok answers.0)) none answers.1 in
    let stops = subst (λ (o : List ℕ). StopsSending c.in-Err.end (moment_of pass link clock o) new) none answers.2 in
    answer_broke_fed c.in-Err.end asked ahead (Opened missed feeder.reader.k) answers.0 first pass link
    (tells c.answer_class.new.link) clock
    (clock_tells c.answer_class.new.clock) c.answer_class.new.out.items (g.E.Sink.tells c.args.log.now)
    (g.G.Gate.tells c.args.gate.now)
    c.requires.not_closed answer (calls_some first pass _ makes) breaks stops

pub returns-clause-called : goal.returns-clause-called
returns-clause-called g c =
    let turns = c.turns.ensures.turns in
    calls_at_end (is_whole c.turns.result) c.turns.result (asked_by c.args.self.now).host turns.came _ _ _
    turns.ends.ends

pub returns-in-Err-clause-called : goal.returns-in-Err-clause-called
returns-in-Err-clause-called g c = ([], calls_none c.args.pass.now)
