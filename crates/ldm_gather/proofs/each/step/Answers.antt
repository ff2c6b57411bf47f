use Rattle.ldm_gather.specs.EachHandling.{tap_in}
use Rattle.ldm_gather.specs.Taking.{given_of, hands_of}
use Rattle.ldm_gather.proofs.StepTurns.{at_end, gave, gave_part, gave_worn, kept_worn, lost, unlogged, unstepped}
use Rattle.ldm_gather.proofs.each.step.Goals as goal

pub returns-in-Ok-clause-steps : goal.returns-in-Ok-clause-steps
returns-in-Ok-clause-steps g c =
    let at = rw c.in-Done-Gap.field-0-is at c.in-Done-Gap.ensures in
    let each = c.args.each.now in
    lost g.T.Taker.takes (tap_in each) c.in-Done-Gap.count c.in-Done-Gap.first c.in-Done-Gap.last each.left (hands_of each.taker c.args.lent.now) c.args.pass.now c.step.new.pass
    (g.E.Sink.tells c.args.log.now) (g.E.Sink.tells c.write_gap.new.log) at.done c.in-Ok.ensures.written c.in-Ok.ensures.faults_kept at.cursor c.requires.going.some

pub returns-in-Err-clause-steps : goal.returns-in-Err-clause-steps
returns-in-Err-clause-steps g c =
    let at = rw c.in-Done-Gap.field-0-is at c.in-Done-Gap.ensures in
    let each = c.args.each.now in
    let failed = c.in-Err.ensures.written in
    unlogged g.T.Taker.takes (tap_in each) c.in-Done-Gap.count c.in-Done-Gap.first c.in-Done-Gap.last each.left (hands_of each.taker c.args.lent.now) c.args.pass.now c.step.new.pass
    (g.E.Sink.tells c.args.log.now) (g.E.Sink.tells c.write_gap.new.log) at.done failed.0 failed.1 c.in-Err.ensures.faults_kept c.requires.going.some

pub returns-in-Done-clause-steps : goal.returns-in-Done-clause-steps
returns-in-Done-clause-steps g c =
    let at = rw c.in-Done-Product.field-0-is at c.in-Done-Product.ensures in
    let each = c.args.each.now in
    let body = at.cursor.0 in
    let holds = at.cursor.1 in
    gave g.T.Taker.takes c.products_stay.ensures.stays (tap_in each) c.count_one.result (given_of c.in-Done-Product.held body) each.left c.count_one.new.left
    (hands_of each.taker c.args.lent.now) (hands_of c.take.new.self c.take.new.lent) c.args.pass.now c.step.new.pass c.take.new.pass c.release.new.pass (g.E.Sink.tells c.args.log.now) _
    at.done holds.row c.in-On.ensures.uses (c.in-On.ensures.taken body holds) c.in-Done.ensures.done c.in-Done.ensures.cursor c.count_one.ensures

pub returns-in-Worn-release-clause-steps : goal.returns-in-Worn-release-clause-steps
returns-in-Worn-release-clause-steps g c =
    let at = rw c.in-Done-Product.field-0-is at c.in-Done-Product.ensures in
    let each = c.args.each.now in
    let body = at.cursor.0 in
    let holds = at.cursor.1 in
    kept_worn g.T.Taker.takes c.products_stay.ensures.stays (tap_in each) _ (given_of c.in-Done-Product.held body) each.left
    (hands_of each.taker c.args.lent.now) (hands_of c.take.new.self c.take.new.lent) c.args.pass.now c.step.new.pass c.take.new.pass c.release.new.pass (g.E.Sink.tells c.args.log.now)
    at.done holds.row c.in-On.ensures.uses (c.in-On.ensures.taken body holds) c.in-Worn-release.ensures.worn c.requires.going.some

pub returns-in-Stopped-clause-steps : goal.returns-in-Stopped-clause-steps
returns-in-Stopped-clause-steps g c =
    let at = rw c.in-Done-Product.field-0-is at c.in-Done-Product.ensures in
    let each = c.args.each.now in
    let body = at.cursor.0 in
    let holds = at.cursor.1 in
    gave_part g.T.Taker.takes c.products_stay.ensures.stays (tap_in each) (given_of c.in-Done-Product.held body) each.left
    (hands_of each.taker c.args.lent.now) (hands_of c.take.new.self c.take.new.lent) c.args.pass.now c.step.new.pass c.take.new.pass (g.E.Sink.tells c.args.log.now)
    at.done holds.row c.in-Stopped.ensures.uses (c.in-Stopped.ensures.taken body holds) c.requires.going.some

pub returns-in-Worn-take-clause-steps : goal.returns-in-Worn-take-clause-steps
returns-in-Worn-take-clause-steps g c =
    let at = rw c.in-Done-Product.field-0-is at c.in-Done-Product.ensures in
    let each = c.args.each.now in
    let body = at.cursor.0 in
    let holds = at.cursor.1 in
    gave_worn g.T.Taker.takes c.products_stay.ensures.stays (tap_in each) (given_of c.in-Done-Product.held body) each.left
    (hands_of each.taker c.args.lent.now) (hands_of c.take.new.self c.take.new.lent) c.args.pass.now c.step.new.pass c.take.new.pass (g.E.Sink.tells c.args.log.now)
    at.done holds.row c.in-Worn-take.ensures.uses (c.in-Worn-take.ensures.taken body holds) c.in-Worn-take.ensures.worn c.requires.going.some

pub returns-in-Done-End-clause-steps : goal.returns-in-Done-End-clause-steps
returns-in-Done-End-clause-steps g c =
    let at = rw c.in-Done-End.field-0-is at c.in-Done-End.ensures in
    let each = c.args.each.now in
    at_end g.T.Taker.takes (tap_in each) _ each.left (hands_of each.taker c.args.lent.now) c.args.pass.now c.step.new.pass (g.E.Sink.tells c.args.log.now) at.done at.cursor c.requires.going.some

pub returns-in-Worn-clause-steps : goal.returns-in-Worn-clause-steps
returns-in-Worn-clause-steps g c =
    let each = c.args.each.now in
    unstepped g.T.Taker.takes (tap_in each) c.in-Worn.turns each.left (hands_of each.taker c.args.lent.now) c.args.pass.now c.step.new.pass (g.E.Sink.tells c.args.log.now)
    c.in-Worn.ensures.worn c.requires.going.some
