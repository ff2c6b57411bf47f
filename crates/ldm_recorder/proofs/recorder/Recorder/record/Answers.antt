use Rattle.ldm_recorder.specs.Recording.{sight_of, who_of}
use Rattle.ldm_recorder.specs.Course.{gated_of}
use Rattle.ldm_recorder.specs.Numbers.{IsBehind, KnowsLasts}
use Rattle.ldm_recorder.proofs.Coursing.{course_begins, course_broken, course_caught, course_given, course_stopped, course_unsaved, not_stopped, recorder_none, recorder_then}
use Rattle.ldm_recorder.proofs.PuttingBack.{of_same, same_none, same_then}
use Rattle.ldm_recorder.proofs.recorder.Recorder.record.Goals as goal

pub loop-init : goal.loop-init
loop-init g c = (
  same_none c.args.pass.now,
  recorder_none c.args.self.now,
  c.requires.ready,
  course_begins (who_of c.args.pass.now c.args.self.now)
      (gated_of (sight_of c.args.pass.now c.args.self.now (g.D.Disk.tells c.args.disk.now) (g.E.Sink.tells c.args.log.now)) (g.G.Gate.tells c.args.gate.now))
      (g.met.D.Disk.consistent c.args.disk.now),
)

pub turn-requires-clause-of : goal.turn-requires-clause-of
turn-requires-clause-of g c = of_same c.args.shared.now c.args.pass.now c.loop.pass c.requires.of c.loop.invariant.0

pub turn-requires-clause-ready : goal.turn-requires-clause-ready
turn-requires-clause-ready g c = c.loop.invariant.2

pub loop-preserved-in-On : goal.loop-preserved-in-On
loop-preserved-in-On g c =
    let tells = g.D.Disk.tells in
    let lines = g.E.Sink.tells in
    let gates = g.G.Gate.tells in
    let so_far = c.loop.invariant in
    let began = gated_of (sight_of c.args.pass.now c.args.self.now (tells c.args.disk.now) (lines c.args.log.now)) (gates c.args.gate.now) in
    let here = gated_of (sight_of c.loop.pass c.loop.self (tells c.loop.disk) (lines c.loop.log)) (gates c.loop.gate) in
    let e = c.in-Ok-Some.ensures in
    let turned = rw c.in-Ok-Some.field-0-is at e.turned in (
      same_then c.args.pass.now c.loop.pass c.turn.new.pass so_far.0 e.kept,
      recorder_then c.args.self.now c.loop.self c.turn.new.self so_far.1 e.same,
      e.ready,
      course_caught c.args.pass.now c.loop.pass c.args.self.now c.loop.self so_far.0 so_far.1 began here so_far.3 c.in-Ok-Some.at
          (gated_of (sight_of c.turn.new.pass c.turn.new.self (tells c.turn.new.disk) (lines c.turn.new.log)) (gates c.idle.new.self)) turned c.in-On.ensures.answered,
    )

pub loop-preserved : goal.loop-preserved
loop-preserved g c =
    let tells = g.D.Disk.tells in
    let lines = g.E.Sink.tells in
    let gates = g.G.Gate.tells in
    let so_far = c.loop.invariant in
    let began = gated_of (sight_of c.args.pass.now c.args.self.now (tells c.args.disk.now) (lines c.args.log.now)) (gates c.args.gate.now) in
    let here = gated_of (sight_of c.loop.pass c.loop.self (tells c.loop.disk) (lines c.loop.log)) (gates c.loop.gate) in
    let e = c.in-Ok-None.ensures in
    let s = c.in-Ok.ensures in
    let turned = rw c.in-Ok-None.field-0-is at e.turned in
    let of = same_then c.args.pass.now c.loop.pass c.turn.new.pass so_far.0 e.kept in
    let same = recorder_then c.args.self.now c.loop.self c.turn.new.self so_far.1 e.same in (
      of,
      recorder_then c.args.self.now c.turn.new.self c.save_late.new.self same s.same,
      s.ready c.turn.new.pass e.ready,
      course_given c.args.pass.now c.loop.pass c.args.self.now c.loop.self so_far.0 so_far.1 began here so_far.3
          (sight_of c.turn.new.pass c.turn.new.self (tells c.turn.new.disk) (lines c.turn.new.log)) turned c.turn.new.pass c.turn.new.self of same
          (sight_of c.turn.new.pass c.save_late.new.self (tells c.save_late.new.disk) (lines c.turn.new.log)) (s.saved c.turn.new.pass (lines c.turn.new.log)),
    )

pub returns-in-Stop-clause-recorded : goal.returns-in-Stop-clause-recorded
returns-in-Stop-clause-recorded g c =
    let tells = g.D.Disk.tells in
    let lines = g.E.Sink.tells in
    let gates = g.G.Gate.tells in
    let so_far = c.loop.invariant in
    let began = gated_of (sight_of c.args.pass.now c.args.self.now (tells c.args.disk.now) (lines c.args.log.now)) (gates c.args.gate.now) in
    let here = gated_of (sight_of c.loop.pass c.loop.self (tells c.loop.disk) (lines c.loop.log)) (gates c.loop.gate) in
    let turned = rw c.in-Ok-Some.field-0-is at c.in-Ok-Some.ensures.turned in
    course_stopped c.args.pass.now c.loop.pass c.args.self.now c.loop.self so_far.0 so_far.1 began here so_far.3 c.in-Ok-Some.at
    (gated_of (sight_of c.turn.new.pass c.turn.new.self (tells c.turn.new.disk) (lines c.turn.new.log)) (gates c.idle.new.self)) turned c.in-Stop.ensures.answered

pub returns-in-Err-clause-recorded : goal.returns-in-Err-clause-recorded
returns-in-Err-clause-recorded g c =
    let tells = g.D.Disk.tells in
    let lines = g.E.Sink.tells in
    let gates = g.G.Gate.tells in
    let so_far = c.loop.invariant in
    let began = gated_of (sight_of c.args.pass.now c.args.self.now (tells c.args.disk.now) (lines c.args.log.now)) (gates c.args.gate.now) in
    let here = gated_of (sight_of c.loop.pass c.loop.self (tells c.loop.disk) (lines c.loop.log)) (gates c.loop.gate) in
    course_broken c.args.pass.now c.loop.pass c.args.self.now c.loop.self so_far.0 so_far.1 began here so_far.3
    c.in-Err.why (sight_of c.turn.new.pass c.turn.new.self (tells c.turn.new.disk) (lines c.turn.new.log)) (lines c.tell-in-Err.new.log) c.in-Err.ensures.turned c.tell-in-Err.ensures.told

pub returns-in-Err-save_late-clause-recorded : goal.returns-in-Err-save_late-clause-recorded
returns-in-Err-save_late-clause-recorded g c =
    let tells = g.D.Disk.tells in
    let lines = g.E.Sink.tells in
    let gates = g.G.Gate.tells in
    let so_far = c.loop.invariant in
    let began = gated_of (sight_of c.args.pass.now c.args.self.now (tells c.args.disk.now) (lines c.args.log.now)) (gates c.args.gate.now) in
    let here = gated_of (sight_of c.loop.pass c.loop.self (tells c.loop.disk) (lines c.loop.log)) (gates c.loop.gate) in
    let e = c.in-Ok-None.ensures in
    let s = c.in-Err-save_late.ensures in
    let turned = rw c.in-Ok-None.field-0-is at e.turned in
    let of = same_then c.args.pass.now c.loop.pass c.turn.new.pass so_far.0 e.kept in
    let same = recorder_then c.args.self.now c.loop.self c.turn.new.self so_far.1 e.same in
    course_unsaved c.args.pass.now c.loop.pass c.args.self.now c.loop.self so_far.0 so_far.1 began here so_far.3
    (sight_of c.turn.new.pass c.turn.new.self (tells c.turn.new.disk) (lines c.turn.new.log)) turned c.turn.new.pass c.turn.new.self of same
    c.in-Err-save_late.why (sight_of c.turn.new.pass c.save_late.new.self (tells c.save_late.new.disk) (lines c.turn.new.log)) (lines c.tell.new.log) (s.saved c.turn.new.pass (lines c.turn.new.log)) c.tell.ensures.told

pub returns-in-Stop-clause-behind : goal.returns-in-Stop-clause-behind
returns-in-Stop-clause-behind g c = rw c.in-Ok-Some.field-0-is at c.in-Ok-Some.ensures.behind

pub returns-in-Err-save_late-clause-behind : goal.returns-in-Err-save_late-clause-behind
returns-in-Err-save_late-clause-behind g c =
    let tells = g.D.Disk.tells in
    let lines = g.E.Sink.tells in
    not_stopped c.in-Err-save_late.why (who_of c.turn.new.pass c.turn.new.self)
    (sight_of c.turn.new.pass c.turn.new.self (tells c.turn.new.disk) (lines c.turn.new.log))
    (sight_of c.turn.new.pass c.save_late.new.self (tells c.save_late.new.disk) (lines c.turn.new.log))
    (IsBehind c.save_late.new.self) (c.in-Err-save_late.ensures.saved c.turn.new.pass (lines c.turn.new.log))

pub returns-in-Stop-clause-knows : goal.returns-in-Stop-clause-knows
returns-in-Stop-clause-knows g c = c.in-Ok-Some.ensures.ready.knows

pub returns-in-Err-clause-knows : goal.returns-in-Err-clause-knows
returns-in-Err-clause-knows g c =
    let tells = g.D.Disk.tells in
    let lines = g.E.Sink.tells in
    not_stopped c.in-Err.why (who_of c.loop.pass c.loop.self) (sight_of c.loop.pass c.loop.self (tells c.loop.disk) (lines c.loop.log))
    (sight_of c.turn.new.pass c.turn.new.self (tells c.turn.new.disk) (lines c.turn.new.log)) (λ at. KnowsLasts c.turn.new.pass.seen c.turn.new.self) c.in-Err.ensures.turned

pub returns-in-Err-save_late-clause-knows : goal.returns-in-Err-save_late-clause-knows
returns-in-Err-save_late-clause-knows g c =
    let tells = g.D.Disk.tells in
    let lines = g.E.Sink.tells in
    not_stopped c.in-Err-save_late.why (who_of c.turn.new.pass c.turn.new.self)
    (sight_of c.turn.new.pass c.turn.new.self (tells c.turn.new.disk) (lines c.turn.new.log))
    (sight_of c.turn.new.pass c.save_late.new.self (tells c.save_late.new.disk) (lines c.turn.new.log))
    (λ at. KnowsLasts c.turn.new.pass.seen c.save_late.new.self) (c.in-Err-save_late.ensures.saved c.turn.new.pass (lines c.turn.new.log))
