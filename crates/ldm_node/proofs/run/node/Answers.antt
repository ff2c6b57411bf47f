use Rattle.std.proofs.Common.{ap, length, map, subst, sym, arith}
use Rattle.ldm_model.specs.History.{after}
use Rattle.ldm_outside.specs.Station.{station_tells}
use Rattle.ldm_disk.specs.Desks.{desk_tells}
use Rattle.ldm_shared.specs.Passes.{PassView}
use Rattle.ldm_conf.specs.Confs.{conf_view, request_view}
use Rattle.ldm_node.specs.Roles.{last_view, plan_of}
use Rattle.ldm_node.proofs.Asking.{all_out, last_legal, one_each}
use Rattle.ldm_node.proofs.Causing.{completes, staffs_cause}
use Rattle.std.specs.Option.{option_map}
use Rattle.std.specs.Vec.{vec_len}
use Rattle.ldm_node.specs.Clerks.{ArePassesFor, clerk_tells, left_tells}
use Rattle.ldm_node.proofs.Recording.{left_so}
use Rattle.ldm_node.proofs.Seating.{are_behind, behind_at, leaves_behind}
use Rattle.ldm_node.proofs.run.node.Goals as goal

pub staff-book-requires-clause-none_out : goal.staff-book-requires-clause-none_out
staff-book-requires-clause-none_out g c κs within =
    let tells = station_tells g.D.Door.tells g.I.Dial.tells g.E.Sink.tells g.C.Clock.tells g.G.Gate.tells in
    all_out tells c.args.options.now.idles c.args.stations.items c.requires.are_new

pub staff-book-requires-clause-passes : goal.staff-book-requires-clause-passes
staff-book-requires-clause-passes g c κs within =
    subst (ArePassesFor c.args.shared c.args.passes.items) (sym c.seat_of-seat.ensures.recorder) c.requires.passes

pub close_seat-recorded-requires-clause-after_calls : goal.close_seat-recorded-requires-clause-after_calls
close_seat-recorded-requires-clause-after_calls g c =
    let left = c.staff-book.result in
    record {
      arena = c.args.shared.arena;
      slots = c.args.shared.slots;
      history = left.pass.seen;
      legal = last_legal c.args.shared left.pass c.staff-book.ensures.last;
      stands = c.staff-book.ensures.stands;
    }

pub close_seat-recorded-requires-clause-behind : goal.close_seat-recorded-requires-clause-behind
close_seat-recorded-requires-clause-behind g c =
    let desks = desk_tells g.F.Disk.tells g.E.Sink.tells g.C.Clock.tells g.G.Gate.tells in
    let passes = c.requires.passes in
    let n = vec_len c.args.stations in
    let is = behind_at c.args.shared c.args.passes.items _ passes n (omega (arith, c.requires.count, c.requires.stations, c.args.stations.ok)) passes.behind in
    are_behind desks c.staff-book.result.pass passes.behind c.seat_of-seat.result c.staff-book.result.seat c.seat_of-seat.ensures.fresh
    (c.staff-book.ensures.seated passes.behind (sym is))

pub returns-clause-recorded : goal.returns-clause-recorded
returns-clause-recorded g c = λ pass is.
    let desks = desk_tells g.F.Disk.tells g.E.Sink.tells g.C.Clock.tells g.G.Gate.tells in
    let left = c.staff-book.result in
    let s = after c.args.shared.arena c.args.shared.slots left.pass.seen in
    leaves_behind desks left.pass pass s (ap (λ (p : PassView). after p.arena p.slots left.pass.seen) (sym c.staff-book.ensures.last.ended)) c.args.clerk
    c.seat_of-seat.result left.seat c.close_seat-recorded.result c.seat_of-seat.ensures.clerk c.seat_of-seat.ensures.fresh (c.staff-book.ensures.seated pass is)
    (c.close_seat-recorded.ensures.closes s c.staff-book.ensures.stands)

pub returns-clause-record_causes : goal.returns-clause-record_causes
returns-clause-record_causes g c =
    let desks = desk_tells g.F.Disk.tells g.E.Sink.tells g.C.Clock.tells g.G.Gate.tells in
    let passes = c.requires.passes in
    let n = vec_len c.args.stations in
    let is = behind_at c.args.shared c.args.passes.items _ passes n (omega (arith, c.requires.count, c.requires.stations, c.args.stations.ok)) passes.behind in
    left_so c.args.shared c.staff-book.result.pass c.staff-book.ensures.last passes.behind (option_map (clerk_tells desks) c.args.clerk)
    (option_map (left_tells desks) c.close_seat-recorded.result) (returns-clause-recorded g c passes.behind (sym is))

pub returns-clause-law : goal.returns-clause-law
returns-clause-law g c =
    c.histories_are_lawful.ensures c.args.shared.arena c.args.shared.slots c.staff-book.result.pass.seen (last_legal c.args.shared c.staff-book.result.pass c.staff-book.ensures.last)

pub returns-clause-causes : goal.returns-clause-causes
returns-clause-causes g c =
    let tells = station_tells g.D.Door.tells g.I.Dial.tells g.E.Sink.tells g.C.Clock.tells g.G.Gate.tells in
    let plan = plan_of (conf_view c.args.conf) c.args.options.now.workers c.args.options.now.sessions (map last_view c.args.lasts.now) in
    let left = c.staff-book.result in
    staffs_cause tells plan c.args.options.now.idles c.args.shared c.args.stations.items (record { pass = left.pass; stations = left.stations.items; end = left.end }) c.staff-book.ensures.last
    c.requires.are_new (one_each request_view c.args.conf.requests.items (length c.args.stations.items) c.args.options.now.workers (omega (arith, c.requires.stations, c.args.stations.ok)))
    c.staff-book.ensures.staffs

pub returns-clause-completes : goal.returns-clause-completes
returns-clause-completes g c =
    let tells = station_tells g.D.Door.tells g.I.Dial.tells g.E.Sink.tells g.C.Clock.tells g.G.Gate.tells in
    completes (plan_of (conf_view c.args.conf) c.args.options.now.workers c.args.options.now.sessions (map last_view c.args.lasts.now)) c.staff-book.result.pass (map tells c.staff-book.result.stations.items) c.staff-book.result.end
    (returns-clause-causes g c)
