use Rattle.std.proofs.Common.{ℕ, Vec, Global, map}
use Rattle.ldm_outside.specs.declared.open_gate.OpenGate.{OpenGate}
use Rattle.ldm_crowd.specs.OrdersView.{script_in}
use Rattle.ldm_crowd.proofs.CrowdWorkerLemmas.{all_played, never_worn, open_tells, never_stops}
use Rattle.ldm_crowd.proofs.crowd_command.play_text.Goals as goal

pub returns-in-Done-clause-played : goal.returns-in-Done-clause-played
returns-in-Done-clause-played g c =
    let crowd = c.play_crowd-crowd.result in
    let old = map (open_tells {G = OpenGate}) c.in_ok-gates.gates.items in
    let new = map (open_tells {G = OpenGate}) crowd.gates.items in
    all_played c.args.shared c.args.workers c.args.text.now (script_in c.in_ok-orders.orders) c.in_ok-orders.ensures.read crowd.pass c.play_crowd-crowd.ensures.last (map (λ (v : Vec ℕ Global). v.items) crowd.answers.items) crowd.end old new crowd.book c.play_crowd-crowd.ensures.stands c.histories_are_lawful.ensures c.in-Done.is c.play_crowd-crowd.ensures.ended

pub unreachable-requires : goal.unreachable-requires
unreachable-requires g c =
    let crowd = c.play_crowd-crowd.result in
    let old = map (open_tells {G = OpenGate}) c.in_ok-gates.gates.items in
    let new = map (open_tells {G = OpenGate}) crowd.gates.items in
    never_worn c.args.shared c.args.workers c.args.text.now (script_in c.in_ok-orders.orders) c.in_ok-orders.ensures.read crowd.pass c.play_crowd-crowd.ensures.last (map (λ (v : Vec ℕ Global). v.items) crowd.answers.items) crowd.end old new
    c.requires.good c.requires.text c.in_ok-orders.ensures.count c.in-Worn.is c.play_crowd-crowd.ensures.ended

pub unreachable-requires-in-Stopped : goal.unreachable-requires-in-Stopped
unreachable-requires-in-Stopped g c =
    let crowd = c.play_crowd-crowd.result in
    never_stops c.in_ok-gates.gates.items crowd.gates.items (script_in c.in_ok-orders.orders) crowd.pass.seen (map (λ (v : Vec ℕ Global). v.items) crowd.answers.items) crowd.end c.in-Stopped.is c.play_crowd-crowd.ensures.ended
