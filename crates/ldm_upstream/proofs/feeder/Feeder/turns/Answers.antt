use Rattle.ldm_sender.proofs.Steps.{of_same, same_then}
use Rattle.ldm_upstream.proofs.Asked.{can_turn_still, same_feeder_then}
use Rattle.ldm_upstream.proofs.Coursing.{course_begins, course_goes_on, course_ends}
use Rattle.ldm_upstream.proofs.feeder.Feeder.turns.Goals as goal

pub loop-init : goal.loop-init
loop-init g c = course_begins _ _ c.requires.not_closed c.requires.ready

pub turn-requires-clause-of : goal.turn-requires-clause-of
turn-requires-clause-of g c = of_same _ _ _ c.requires.of c.loop.invariant.same

pub turn-requires-clause-ready : goal.turn-requires-clause-ready
turn-requires-clause-ready g c =
    can_turn_still c.args.self.now _ _ _ c.loop.invariant.same_feeder c.loop.invariant.turns.makes.cursor c.requires.ready

pub turn-requires-clause-not_closed : goal.turn-requires-clause-not_closed
turn-requires-clause-not_closed g c = c.loop.invariant.unclosed

pub loop-preserved : goal.loop-preserved
loop-preserved g c =
    let made = c.in-Ok.ensures in
    course_goes_on c.products_stay.ensures.stays _ _ _ _ _ _ c.loop.invariant made.kept made.still_open made.same
    made.turns

pub returns-in-Err-clause-kept : goal.returns-in-Err-clause-kept
returns-in-Err-clause-kept g c =
    same_then c.args.pass.now c.loop.pass c.turn.new.pass c.loop.invariant.same c.in-Err.ensures.kept

pub returns-in-Err-clause-same : goal.returns-in-Err-clause-same
returns-in-Err-clause-same g c = same_feeder_then c.args.self.now _ _ c.loop.invariant.same_feeder c.in-Err.ensures.same

pub returns-in-Err-clause-turns : goal.returns-in-Err-clause-turns
returns-in-Err-clause-turns g c =
    course_ends c.products_stay.ensures.stays _ c.args.self.now _ _ _ _ c.loop.invariant c.in-Err.ensures.turns
