use Rattle.std.proofs.Common.{arith, refl}
use Rattle.ldm_recorder.specs.Recording.{sight_of}
use Rattle.ldm_recorder.proofs.Coursing.{recorder_none}
use Rattle.ldm_recorder.proofs.Numbering.{ahead_at_end}
use Rattle.ldm_recorder.proofs.PuttingBack.{of_same, same_then}
use Rattle.ldm_recorder.proofs.Stepping.{caught, gave, gave_up, knows_stepped, lost, lost_unsaid, may_record, not_caught, not_stepped, past_numbers, ready_asked, ready_behind, ready_still}
use Rattle.ldm_recorder.proofs.recorder.Recorder.turn.Goals as goal

pub take-requires-clause-rises : goal.take-requires-clause-rises
take-requires-clause-rises g c =
    let at = rw c.in-Done-Product.field-0-is at c.in-Done-Product.ensures in
    let held = c.in-Done-Product.held in
    may_record c.own_readers.ensures.in_order c.args.self.now c.args.pass.now c.step.new.pass held.n held.time held.info c.in-Some.number c.requires.ready at.done
    c.in-Some.ensures

pub returns-in-Ok-clause-ready : goal.returns-in-Ok-clause-ready
returns-in-Ok-clause-ready g c =
    let at = rw c.in-Done-Gap.field-0-is at c.in-Done-Gap.ensures in
    ready_still c.args.self.now c.args.self.now c.args.pass.now c.step.new.pass _ c.requires.ready at.done (λ ns. refl) at.cursor (recorder_none c.args.self.now) refl refl

pub returns-in-Ok-clause-turned : goal.returns-in-Ok-clause-turned
returns-in-Ok-clause-turned g c =
    let at = rw c.in-Done-Gap.field-0-is at c.in-Done-Gap.ensures in
    lost c.args.self.now c.args.pass.now c.step.new.pass (g.D.Disk.tells c.args.disk.now) (g.E.Sink.tells c.args.log.now) (g.met.D.Disk.consistent c.args.disk.now) c.step.ensures.kept
    c.in-Done-Gap.count c.in-Done-Gap.first c.in-Done-Gap.last (g.E.Sink.tells c.write_gap.new.log) at.done c.in-Ok.ensures.written c.in-Ok.ensures.faults_kept

pub returns-in-Err-clause-turned : goal.returns-in-Err-clause-turned
returns-in-Err-clause-turned g c =
    let at = rw c.in-Done-Gap.field-0-is at c.in-Done-Gap.ensures in
    lost_unsaid c.args.self.now c.args.pass.now c.step.new.pass (g.D.Disk.tells c.args.disk.now) (g.E.Sink.tells c.args.log.now) (g.met.D.Disk.consistent c.args.disk.now) c.step.ensures.kept
    c.in-Done-Gap.count c.in-Done-Gap.first c.in-Done-Gap.last (g.E.Sink.tells c.write_gap.new.log) at.done c.in-Err.ensures.written.1 c.in-Err.ensures.faults_kept
    c.in-Err.ensures.written.0

pub returns-in-Ok-take-clause-ready : goal.returns-in-Ok-take-clause-ready
returns-in-Ok-take-clause-ready g c =
    let at = rw c.in-Done-Product.field-0-is at c.in-Done-Product.ensures in
    let e = c.in-Ok-take.ensures in
    ready_behind c.own_readers.ensures.in_order c.args.self.now c.take.new.self c.args.pass.now c.step.new.pass c.take.new.pass c.in-Done-Product.held at.cursor.0
    c.in-Some.number (g.D.Disk.tells c.args.disk.now) (g.D.Disk.tells c.take.new.disk) (g.E.Sink.tells c.args.log.now) (g.E.Sink.tells c.take.new.log) c.requires.ready
    at.done c.in-Some.ensures (e.taken at.cursor.0 at.cursor.1) e.cursor e.same e.lasts e.next

pub returns-in-Ok-take-clause-turned : goal.returns-in-Ok-take-clause-turned
returns-in-Ok-take-clause-turned g c =
    let at = rw c.in-Done-Product.field-0-is at c.in-Done-Product.ensures in
    gave c.args.self.now c.args.pass.now c.step.new.pass (g.D.Disk.tells c.args.disk.now) (g.E.Sink.tells c.args.log.now) (g.met.D.Disk.consistent c.args.disk.now) c.step.ensures.kept
    c.in-Done-Product.held at.cursor.0 at.done c.in-Some.number c.in-Some.ensures
    (sight_of c.take.new.pass c.take.new.self (g.D.Disk.tells c.take.new.disk) (g.E.Sink.tells c.take.new.log)) (c.in-Ok-take.ensures.taken at.cursor.0 at.cursor.1)

pub returns-in-Err-take-clause-turned : goal.returns-in-Err-take-clause-turned
returns-in-Err-take-clause-turned g c =
    let at = rw c.in-Done-Product.field-0-is at c.in-Done-Product.ensures in
    gave_up c.args.self.now c.args.pass.now c.step.new.pass (g.D.Disk.tells c.args.disk.now) (g.E.Sink.tells c.args.log.now) (g.met.D.Disk.consistent c.args.disk.now) c.step.ensures.kept
    c.in-Done-Product.held at.cursor.0 at.done c.in-Err-take.why c.in-Some.number c.in-Some.ensures
    (sight_of c.take.new.pass c.take.new.self (g.D.Disk.tells c.take.new.disk) (g.E.Sink.tells c.take.new.log)) (c.in-Err-take.ensures.taken at.cursor.0 at.cursor.1)

pub returns-in-None-clause-turned : goal.returns-in-None-clause-turned
returns-in-None-clause-turned g c =
    let at = rw c.in-Done-Product.field-0-is at c.in-Done-Product.ensures in
    past_numbers c.args.self.now c.args.pass.now c.step.new.pass (g.D.Disk.tells c.args.disk.now) (g.E.Sink.tells c.args.log.now) (g.met.D.Disk.consistent c.args.disk.now) c.step.ensures.kept
    c.in-Done-Product.held at.cursor.0 at.done c.in-None.ensures

pub save_caught-requires : goal.save_caught-requires
save_caught-requires g c = of_same c.args.shared.now c.args.pass.now c.step.new.pass c.requires.of c.step.ensures.kept

pub returns-in-Ok-save_caught-clause-kept : goal.returns-in-Ok-save_caught-clause-kept
returns-in-Ok-save_caught-clause-kept g c = same_then c.args.pass.now c.step.new.pass c.save_caught.new.pass c.step.ensures.kept c.in-Ok-save_caught.ensures.kept

pub returns-in-Ok-save_caught-clause-ready : goal.returns-in-Ok-save_caught-clause-ready
returns-in-Ok-save_caught-clause-ready g c =
    let at = rw c.in-Done-End.field-0-is at c.in-Done-End.ensures in
    let e = c.in-Ok-save_caught.ensures in
    ready_asked c.args.self.now c.save_caught.new.self c.args.pass.now c.step.new.pass c.save_caught.new.pass c.in-Done-End.at c.requires.ready at.done at.cursor e.calls e.same e.knows e.next

pub returns-in-Ok-save_caught-clause-turned : goal.returns-in-Ok-save_caught-clause-turned
returns-in-Ok-save_caught-clause-turned g c =
    let at = rw c.in-Done-End.field-0-is at c.in-Done-End.ensures in
    let e = c.in-Ok-save_caught.ensures in
    caught c.args.self.now c.args.pass.now c.step.new.pass (g.D.Disk.tells c.args.disk.now) (g.E.Sink.tells c.args.log.now) (g.met.D.Disk.consistent c.args.disk.now) c.step.ensures.kept
    c.in-Done-End.at at.done c.save_caught.new.pass e.calls c.save_caught.new.self (g.D.Disk.tells c.save_caught.new.disk)
    (e.saved (g.E.Sink.tells c.args.log.now) (knows_stepped c.args.self.now c.args.pass.now c.step.new.pass _ c.requires.ready at.done))

pub returns-in-Ok-save_caught-clause-behind : goal.returns-in-Ok-save_caught-clause-behind
returns-in-Ok-save_caught-clause-behind g c =
    let at = rw c.in-Done-End.field-0-is at c.in-Done-End.ensures in
    let laws = c.own_readers.ensures in
    let ready = c.requires.ready in
    let e = c.in-Ok-save_caught.ensures in
    let ahead =
    ahead_at_end (laws.in_order, laws.answered, laws.agrees, laws.served) c.args.pass.now c.step.new.pass c.args.self.now.reader.k ready.least c.in-Done-End.at ready.ahead at.done in
    omega (arith, ready.numbers, ahead, e.next, e.same.base)

pub returns-in-Err-save_caught-clause-kept : goal.returns-in-Err-save_caught-clause-kept
returns-in-Err-save_caught-clause-kept g c = same_then c.args.pass.now c.step.new.pass c.save_caught.new.pass c.step.ensures.kept c.in-Err-save_caught.ensures.kept

pub returns-in-Err-save_caught-clause-turned : goal.returns-in-Err-save_caught-clause-turned
returns-in-Err-save_caught-clause-turned g c =
    let at = rw c.in-Done-End.field-0-is at c.in-Done-End.ensures in
    let e = c.in-Err-save_caught.ensures in
    not_caught c.args.self.now c.args.pass.now c.step.new.pass (g.D.Disk.tells c.args.disk.now) (g.E.Sink.tells c.args.log.now) (g.met.D.Disk.consistent c.args.disk.now) c.step.ensures.kept
    c.in-Done-End.at at.done c.save_caught.new.pass e.calls c.save_caught.new.self (g.D.Disk.tells c.save_caught.new.disk) c.in-Err-save_caught.why
    (e.saved (g.E.Sink.tells c.args.log.now) (knows_stepped c.args.self.now c.args.pass.now c.step.new.pass _ c.requires.ready at.done)) e.disk.faults

pub returns-in-Worn-clause-turned : goal.returns-in-Worn-clause-turned
returns-in-Worn-clause-turned g c =
    not_stepped c.args.self.now c.args.pass.now c.step.new.pass (g.D.Disk.tells c.args.disk.now) (g.E.Sink.tells c.args.log.now) (g.met.D.Disk.consistent c.args.disk.now) c.step.ensures.kept
    _ c.in-Worn.ensures.worn
