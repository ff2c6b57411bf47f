use denote.Param.Send.{arg_sync, param_sync}
use Rattle.std.proofs.Common.{◌≡◌, ◌+◌, ℕ, length, map, get_or, sym, ap, subst, inr, arith, ◌∙◌}
use Rattle.std.specs.Prelude.{OnOk, OnErr}
use Rattle.std.specs.Option.{option_map}
use Rattle.std.specs.Vec.{vec_len}
use Rattle.ldm_disk.specs.Desks.{desk_tells}
use Rattle.ldm_outside.specs.Station.{station_tells}
use Rattle.ldm_conf.specs.Confs.{conf_view}
use Rattle.ldm_shared.specs.Passes.{HasAllOf, PassView}
use Rattle.ldm_shared.specs.Work.{AllBegin, AllWorked}
use Rattle.ldm_node.specs.Posts.{MayBegin, PostWorks}
use Rattle.ldm_node.specs.Roles.{last_view, plan_of}
use Rattle.ldm_node.specs.Seats.{IsReadySeat, SeatWorks, SeatsBehind, recorder_of}
use Rattle.ldm_node.proofs.Crosses.{Staffing-sync}
use Rattle.ldm_node.proofs.Gathered.{all_did, come_back, come_last, last_called, left_behind, left_same, none_called, staffed}
use Rattle.ldm_node.proofs.Posting.{length-posts, posts_begin}
use Rattle.ldm_node.proofs.Seating.{all_passes, behind_at, new_at, passes_long, ready_behind, seats_behind, seats_same}
use Rattle.ldm_node.proofs.run.staff.Goals as goal

pub close-requires : goal.close-requires
close-requires g c =
    all_passes c.args.shared c.args.passes.items (option_map recorder_of c.args.seat) c.requires.passes (length c.args.stations.items)
    (omega (arith, c.requires.count, c.args.stations.ok))

pub returns-in_default-clause-staffs : goal.returns-in_default-clause-staffs
returns-in_default-clause-staffs g c =
    let count : length c.args.stations.items + 1 ≡ c.args.shared.passes = omega (arith, c.requires.count, c.args.stations.ok) in
    let are = c.requires.passes in
    let recorder = option_map recorder_of c.args.seat in
    let last = c.close.result.pass in
    let long = passes_long c.args.shared c.args.passes.items recorder are (length c.args.stations.items) count in
    inr (record {
      stations = c.close.ensures.stations;
      uncalled = λ actor less.
          subst (HasAllOf last) (new_at c.args.shared c.args.passes.items recorder are (length c.args.stations.items) count last actor less)
          (c.close.ensures.uncalled actor last (omega (arith, less, long)));
      end = c.close.ensures.end;
    })

pub returns-in_default-clause-seated : goal.returns-in_default-clause-seated
returns-in_default-clause-seated g c = λ pass is.
    let count : length c.args.stations.items + 1 ≡ c.args.shared.passes = omega (arith, c.requires.count, c.args.stations.ok) in
    let are = c.requires.passes in
    let recorder = option_map recorder_of c.args.seat in
    let last = c.close.result.pass in
    let long = passes_long c.args.shared c.args.passes.items recorder are (length c.args.stations.items) count in
    let desks = desk_tells g.F.Disk.tells g.E.Sink.tells g.C.Clock.tells g.G.Gate.tells in
    let place : vec_len c.args.stations ≡ length c.args.stations.items = omega (arith, c.args.stations.ok) in
    let there : pass ≡ get_or c.args.passes.items (length c.args.stations.items) pass = is ∙ ap (λ (i : ℕ). get_or c.args.passes.items i pass) place in
    seats_same desks last pass c.args.seat c.close.result.seat c.close.ensures.seat
    (subst (HasAllOf last) (sym there) (c.close.ensures.uncalled (length c.args.stations.items) pass (omega (arith, long))))

pub hand_out-requires-clause-room : goal.hand_out-requires-clause-room
hand_out-requires-clause-room g c =
    let count : length c.args.stations.items + 1 ≡ c.args.shared.passes = omega (arith, c.requires.count, c.args.stations.ok) in
    let long = passes_long c.args.shared c.args.passes.items (option_map recorder_of c.args.seat) c.requires.passes (length c.args.stations.items) count in
    omega (arith, c.in-Ok.ensures.capacity, c.len.ensures, c.requires.count, c.args.passes.ok, c.args.stations.ok, long)

pub run_workers-book-requires-clause-passes : goal.run_workers-book-requires-clause-passes
run_workers-book-requires-clause-passes g c κs within =
    all_passes c.args.shared c.args.passes.items (option_map recorder_of c.args.seat) c.requires.passes (length c.args.stations.items)
    (omega (arith, c.requires.count, c.args.stations.ok))

pub run_workers-book-requires-clause-count : goal.run_workers-book-requires-clause-count
run_workers-book-requires-clause-count g c =
    let count : length c.args.stations.items + 1 ≡ c.args.shared.passes = omega (arith, c.requires.count, c.args.stations.ok) in
    let long = passes_long c.args.shared c.args.passes.items (option_map recorder_of c.args.seat) c.requires.passes (length c.args.stations.items) count in
    omega (
      arith,
      c.requires.count,
      c.hand_out.new.posts.ok,
      ap length c.hand_out.ensures.posts,
      length-posts c.args.stations.items c.args.seat,
      c.args.stations.ok,
      c.args.passes.ok,
      long,
    )

pub run_workers-book-requires-clause-begins : goal.run_workers-book-requires-clause-begins
run_workers-book-requires-clause-begins g c κs within =
    let tells = station_tells g.D.Door.tells g.I.Dial.tells g.E.Sink.tells g.C.Clock.tells g.G.Gate.tells in
    let count : length c.args.stations.items + 1 ≡ c.args.shared.passes = omega (arith, c.requires.count, c.args.stations.ok) in
    subst (λ posts. AllBegin (λ pass post. MayBegin tells IsReadySeat pass post) c.args.passes.items posts) (sym c.hand_out.ensures.posts)
    (λ i p d less.
    posts_begin tells IsReadySeat c.args.seat c.args.stations.items (λ (k : ℕ). get_or c.args.passes.items k p) c.requires.none_out
    (ready_behind c.args.shared c.args.passes.items c.args.seat c.requires.passes (length c.args.stations.items) count p) i d less)

pub take_back-first-requires-clause-room : goal.take_back-first-requires-clause-room
take_back-first-requires-clause-room g c =
    let tells = station_tells g.D.Door.tells g.I.Dial.tells g.E.Sink.tells g.C.Clock.tells g.G.Gate.tells in
    let does = SeatWorks (desk_tells g.F.Disk.tells g.E.Sink.tells g.C.Clock.tells g.G.Gate.tells) in
    let plan = plan_of (conf_view c.args.staffing.now.conf.now) c.args.staffing.now.workers c.args.staffing.now.sessions (map last_view c.args.staffing.now.lasts.now) in
    let left = c.run_workers-book.result in
    let given = c.args.stations.items in
    let seat = c.args.seat in
    let passes = c.args.passes.items in
    let queue_count : length given + 1 ≡ c.args.shared.passes = omega (arith, c.requires.count, c.args.stations.ok) in
    let count : length left.own.items ≡ length given + 1 =
    omega (arith, c.run_workers-book.ensures.count, left.own.ok, c.hand_out.new.posts.ok, ap length c.hand_out.ensures.posts, length-posts given seat) in
    let new = new_at c.args.shared passes (option_map recorder_of seat) c.requires.passes (length given) queue_count left.pass in
    let did = all_did tells does plan c.args.shared left.pass passes given seat left.own.items left.done
    (subst (λ posts. OnOk left.done (AllWorked (PostWorks tells does plan) left.pass passes posts left.own.items)) c.hand_out.ensures.posts c.run_workers-book.ensures.worked) in
    let back = come_back tells does plan c.args.shared left.pass (λ (i : ℕ). get_or passes i left.pass) given seat left.own.items new count left.done did
    (subst (λ posts. OnErr left.done (left.own.items ≡ posts)) c.hand_out.ensures.posts c.run_workers-book.ensures.untouched) in
    omega (arith, back, c.hand_out.ensures.room, c.args.stations.ok)

pub take_back-first-requires-clause-last : goal.take_back-first-requires-clause-last
take_back-first-requires-clause-last g c =
    let tells = station_tells g.D.Door.tells g.I.Dial.tells g.E.Sink.tells g.C.Clock.tells g.G.Gate.tells in
    let does = SeatWorks (desk_tells g.F.Disk.tells g.E.Sink.tells g.C.Clock.tells g.G.Gate.tells) in
    let plan = plan_of (conf_view c.args.staffing.now.conf.now) c.args.staffing.now.workers c.args.staffing.now.sessions (map last_view c.args.staffing.now.lasts.now) in
    let left = c.run_workers-book.result in
    let given = c.args.stations.items in
    let seat = c.args.seat in
    let passes = c.args.passes.items in
    let queue_count : length given + 1 ≡ c.args.shared.passes = omega (arith, c.requires.count, c.args.stations.ok) in
    let count : length left.own.items ≡ length given + 1 =
    omega (arith, c.run_workers-book.ensures.count, left.own.ok, c.hand_out.new.posts.ok, ap length c.hand_out.ensures.posts, length-posts given seat) in
    let new = new_at c.args.shared passes (option_map recorder_of seat) c.requires.passes (length given) queue_count left.pass in
    let did = all_did tells does plan c.args.shared left.pass passes given seat left.own.items left.done
    (subst (λ posts. OnOk left.done (AllWorked (PostWorks tells does plan) left.pass passes posts left.own.items)) c.hand_out.ensures.posts c.run_workers-book.ensures.worked) in
    come_last tells does plan c.args.shared left.pass (λ (i : ℕ). get_or passes i left.pass) given seat left.own.items new count left.done did
    (subst (λ posts. OnErr left.done (left.own.items ≡ posts)) c.hand_out.ensures.posts c.run_workers-book.ensures.untouched)

pub returns-clause-staffs : goal.returns-clause-staffs
returns-clause-staffs g c =
    let tells = station_tells g.D.Door.tells g.I.Dial.tells g.E.Sink.tells g.C.Clock.tells g.G.Gate.tells in
    let does = SeatWorks (desk_tells g.F.Disk.tells g.E.Sink.tells g.C.Clock.tells g.G.Gate.tells) in
    let plan = plan_of (conf_view c.args.staffing.now.conf.now) c.args.staffing.now.workers c.args.staffing.now.sessions (map last_view c.args.staffing.now.lasts.now) in
    let left = c.run_workers-book.result in
    let given = c.args.stations.items in
    let seat = c.args.seat in
    let passes = c.args.passes.items in
    let queue_count : length given + 1 ≡ c.args.shared.passes = omega (arith, c.requires.count, c.args.stations.ok) in
    let count : length left.own.items ≡ length given + 1 =
    omega (arith, c.run_workers-book.ensures.count, left.own.ok, c.hand_out.new.posts.ok, ap length c.hand_out.ensures.posts, length-posts given seat) in
    let new = new_at c.args.shared passes (option_map recorder_of seat) c.requires.passes (length given) queue_count left.pass in
    let long = passes_long c.args.shared passes (option_map recorder_of seat) c.requires.passes (length given) queue_count in
    let did = all_did tells does plan c.args.shared left.pass passes given seat left.own.items left.done
    (subst (λ posts. OnOk left.done (AllWorked (PostWorks tells does plan) left.pass passes posts left.own.items)) c.hand_out.ensures.posts c.run_workers-book.ensures.worked) in
    staffed tells does plan c.args.shared left.pass (λ (i : ℕ). get_or passes i left.pass) given seat left.own.items new count
    c.take_back-first.new.stations.items c.end_of.result c.take_back-first.result.0 left.done did
    (subst (λ posts. OnErr left.done (left.own.items ≡ posts)) c.hand_out.ensures.posts c.run_workers-book.ensures.untouched)
    (none_called left.pass passes (length given) (omega (arith, long)) left.done c.run_workers-book.ensures.uncalled)
    c.take_back-first.ensures.stations c.take_back-first.ensures.first c.end_of.ensures.worked c.end_of.ensures.none_began

pub returns-clause-seated : goal.returns-clause-seated
returns-clause-seated g c = λ pass is.
    let tells = station_tells g.D.Door.tells g.I.Dial.tells g.E.Sink.tells g.C.Clock.tells g.G.Gate.tells in
    let desks = desk_tells g.F.Disk.tells g.E.Sink.tells g.C.Clock.tells g.G.Gate.tells in
    let does = SeatWorks desks in
    let plan = plan_of (conf_view c.args.staffing.now.conf.now) c.args.staffing.now.workers c.args.staffing.now.sessions (map last_view c.args.staffing.now.lasts.now) in
    let left = c.run_workers-book.result in
    let given = c.args.stations.items in
    let seat = c.args.seat in
    let passes = c.args.passes.items in
    let recorder = option_map recorder_of seat in
    let queue_count : length given + 1 ≡ c.args.shared.passes = omega (arith, c.requires.count, c.args.stations.ok) in
    let count : length left.own.items ≡ length given + 1 =
    omega (arith, c.run_workers-book.ensures.count, left.own.ok, c.hand_out.new.posts.ok, ap length c.hand_out.ensures.posts, length-posts given seat) in
    let new = new_at c.args.shared passes recorder c.requires.passes (length given) queue_count left.pass in
    let long = passes_long c.args.shared passes recorder c.requires.passes (length given) queue_count in
    let did = all_did tells does plan c.args.shared left.pass passes given seat left.own.items left.done
    (subst (λ posts. OnOk left.done (AllWorked (PostWorks tells does plan) left.pass passes posts left.own.items)) c.hand_out.ensures.posts c.run_workers-book.ensures.worked) in
    let untouched = subst (λ posts. OnErr left.done (left.own.items ≡ posts)) c.hand_out.ensures.posts c.run_workers-book.ensures.untouched in
    let place : vec_len c.args.stations ≡ length given = omega (arith, c.args.stations.ok) in
    let its : pass ≡ get_or passes (length given) pass = is ∙ ap (λ (i : ℕ). get_or passes i pass) place in
    let there : get_or passes (length given) left.pass ≡ pass =
    behind_at c.args.shared passes recorder c.requires.passes (length given) queue_count left.pass
    ∙ sym (behind_at c.args.shared passes recorder c.requires.passes (length given) queue_count pass) ∙ sym its in
    subst (λ (p : PassView). SeatsBehind desks left.pass p seat c.take_back-first.result.1) there
    (seats_behind desks left.pass (get_or passes (length given) left.pass) seat c.take_back-first.result.1 left.done
    (left_behind tells does plan c.args.shared left.pass (λ (i : ℕ). get_or passes i left.pass) given seat left.own.items new count c.take_back-first.result.1 left.done did
    c.take_back-first.ensures.clerk)
    (left_same given seat c.take_back-first.result.1 left.own.items left.done untouched c.take_back-first.ensures.clerk)
    (last_called left.pass passes left.done c.run_workers-book.ensures.uncalled (length given) left.pass (omega (arith, long))))

pub run_workers-book-requires-sync-W : goal.run_workers-book-requires-sync-W
run_workers-book-requires-sync-W g c κs within = search (param_sync, arg_sync, Staffing-sync c.requires.shareable)
