use Rattle.std.proofs.Common.{◌≡◌, ◌∙◌, ℕ, List, Vec, Global, length, map, sym, ap, subst, arith}
use Rattle.std.proofs.lemmas.List.{length-map}
use Rattle.std.proofs.lemmas.List.FromFn.{length-map-range_with_len}
use Rattle.ldm_shared.specs.Passes.{AreAllOf, new_pass}
use Rattle.ldm_shared.proofs.CallerLemmas.{new_are_all}
use Rattle.ldm_shared.proofs.Gathered.{begin_anew, unseen_anew, worked_anew}
use Rattle.ldm_crowd.specs.Crowd.{HasCome}
use Rattle.ldm_crowd.specs.OrdersView.{script_in}
use Rattle.ldm_crowd.proofs.Gathered.{all_may_begin, hired_ends, hired_stops, last_legal, may_play, none_made, player_gate, plays_lines, stops_same}
use Rattle.ldm_crowd.proofs.run.play_crowd.Goals as goal

pub finish-book-requires : goal.finish-book-requires
finish-book-requires g c = subst (AreAllOf c.args.shared) (sym c.requires.passes) (new_are_all c.args.shared)

pub returns-in_default-clause-law : goal.returns-in_default-clause-law
returns-in_default-clause-law g c =
    c.fifo.ensures.obeys_law c.args.shared.arena c.args.shared.slots c.finish-book.result.1.seen (last_legal c.args.shared c.finish-book.result.1 c.finish-book.ensures.last)

pub returns-in_default-clause-ended : goal.returns-in_default-clause-ended
returns-in_default-clause-ended g c =
    let last = c.finish-book.result.1 in
    let gates = map g.G.Gate.tells c.args.gates.items in
    subst (λ (vs : List (Vec ℕ Global)). HasCome (script_in c.args.orders.now) (record { history = last.seen; answers = map (λ text. text.items) vs; gates_before = gates; gates = gates })) (sym c.new.ensures.items)
    (none_made g.G.Gate.tells c.args.shared (script_in c.args.orders.now) c.args.passes.items last c.args.gates.items c.requires.passes c.requires.actors c.finish-book.ensures.last c.finish-book.ensures.all)

pub returns-in_default-clause-stops_kept : goal.returns-in_default-clause-stops_kept
returns-in_default-clause-stops_kept g c = stops_same (map g.G.Gate.tells c.args.gates.items)

pub run_workers-book-requires-clause-passes : goal.run_workers-book-requires-clause-passes
run_workers-book-requires-clause-passes g c κs within = subst (AreAllOf c.args.shared) (sym c.requires.passes) (new_are_all c.args.shared)

pub run_workers-book-requires-clause-count : goal.run_workers-book-requires-clause-count
run_workers-book-requires-clause-count g c =
    omega (
      arith,
      c.equip.new.workers.ok,
      length-map c.equip.new.workers.items player_gate,
      ap length c.equip.ensures.gates,
      c.args.gates.ok,
      c.requires.gates,
      c.args.passes.ok,
      ap length c.requires.passes,
      length-map-range_with_len (new_pass c.args.shared) 0 c.args.shared.passes,
    )

pub run_workers-book-requires-clause-begins : goal.run_workers-book-requires-clause-begins
run_workers-book-requires-clause-begins g c κs within =
    let workers = c.equip.new.workers.items in
    let gates = c.equip.ensures.gates in
    let size : length workers ≡ c.args.shared.passes = sym (length-map workers player_gate) ∙ ap length (sym gates) ∙ omega (arith, c.requires.gates, c.args.gates.ok) in
    begin_anew (may_play (script_in c.args.orders.now)) c.args.shared c.args.passes.items workers c.requires.passes size
    (all_may_begin (script_in c.args.orders.now) c.args.shared workers c.requires.actors
    size c.equip.ensures.new)

pub returns-clause-law : goal.returns-clause-law
returns-clause-law g c =
    c.fifo.ensures.obeys_law c.args.shared.arena c.args.shared.slots c.run_workers-book.result.pass.seen (last_legal c.args.shared c.run_workers-book.result.pass c.run_workers-book.ensures.last)

pub returns-clause-ended : goal.returns-clause-ended
returns-clause-ended g c =
    let olds = c.equip.new.workers.items in
    let left = c.run_workers-book.result in
    let size : length olds ≡ c.args.shared.passes = sym (length-map olds player_gate) ∙ ap length (sym c.equip.ensures.gates) ∙ omega (arith, c.requires.gates, c.args.gates.ok) in
    let count : length left.own.items ≡ length olds = omega (arith, c.run_workers-book.ensures.count, left.own.ok, c.equip.new.workers.ok) in
    hired_ends g.G.Gate.tells c.args.shared (script_in c.args.orders.now) olds left.own.items left.pass c.run_workers-book.ensures.last c.requires.actors size count c.equip.ensures.new
    c.args.gates.items c.dismiss-ended.new.gates.items c.equip.ensures.gates c.dismiss-ended.ensures.gates c.dismiss-ended.new.answers.items c.dismiss-ended.ensures.answers
    left.done
    (worked_anew (plays_lines g.G.Gate.tells (script_in c.args.orders.now)) c.args.shared left.pass c.args.passes.items olds left.own.items left.done c.requires.passes size c.run_workers-book.ensures.worked)
    c.run_workers-book.ensures.untouched (unseen_anew c.args.shared left.pass c.args.passes.items left.done c.requires.passes c.run_workers-book.ensures.last c.run_workers-book.ensures.uncalled)
    c.end_of.result c.dismiss-ended.result c.dismiss-ended.ensures.end c.end_of.ensures.played c.end_of.ensures.none_began

pub returns-clause-stops_kept : goal.returns-clause-stops_kept
returns-clause-stops_kept g c =
    let olds = c.equip.new.workers.items in
    let left = c.run_workers-book.result in
    let size : length olds ≡ c.args.shared.passes = sym (length-map olds player_gate) ∙ ap length (sym c.equip.ensures.gates) ∙ omega (arith, c.requires.gates, c.args.gates.ok) in
    let count : length left.own.items ≡ length olds = omega (arith, c.run_workers-book.ensures.count, left.own.ok, c.equip.new.workers.ok) in
    hired_stops g.G.Gate.tells c.args.shared (script_in c.args.orders.now) olds left.own.items left.pass c.run_workers-book.ensures.last c.requires.actors size count
    c.args.gates.items c.dismiss-ended.new.gates.items c.equip.ensures.gates c.dismiss-ended.ensures.gates c.dismiss-ended.new.answers.items c.dismiss-ended.ensures.answers
    left.done
    (worked_anew (plays_lines g.G.Gate.tells (script_in c.args.orders.now)) c.args.shared left.pass c.args.passes.items olds left.own.items left.done c.requires.passes size c.run_workers-book.ensures.worked)
    c.run_workers-book.ensures.untouched

pub equip-requires-clause-counts : goal.equip-requires-clause-counts
equip-requires-clause-counts g c =
    omega (arith, c.in-Ok.ensures.rooms, c.len.ensures, c.requires.gates, c.args.passes.ok, ap length c.requires.passes, length-map-range_with_len (new_pass c.args.shared) 0 c.args.shared.passes)

pub equip-requires-clause-room : goal.equip-requires-clause-room
equip-requires-clause-room g c =
    let room = c.in-Ok.ensures.capacity.0 in
    omega (arith, room, c.len.ensures, c.requires.gates, c.args.passes.ok, ap length c.requires.passes, length-map-range_with_len (new_pass c.args.shared) 0 c.args.shared.passes)

pub dismiss-ended-requires-clause-room : goal.dismiss-ended-requires-clause-room
dismiss-ended-requires-clause-room g c =
    let workers = c.equip.new.workers in
    let room = c.in-Ok.ensures.capacity.1 in
    let passes = length-map-range_with_len (new_pass c.args.shared) 0 c.args.shared.passes in (
      omega (arith, c.run_workers-book.ensures.count, c.equip.ensures.room),
      omega (
        arith,
        c.run_workers-book.ensures.count,
        workers.ok,
        length-map workers.items player_gate,
        ap length c.equip.ensures.gates,
        c.args.gates.ok,
        c.requires.gates,
        room,
        c.len.ensures,
        c.args.passes.ok,
        ap length c.requires.passes,
        passes,
      ),
    )
