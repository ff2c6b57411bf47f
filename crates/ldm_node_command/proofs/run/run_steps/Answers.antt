use Rattle.std.proofs.Common.{◌≡◌, ◌∙◌, ◌+◌, List, map, refl, ap, subst, arith}
use Rattle.std.specs.Vec.{vec_len}
use Rattle.std.proofs.lemmas.List.{length-map}
use Rattle.std.proofs.lemmas.Result.{err_from_is_err_and}
use Rattle.ldm_outside.specs.Station.{station_tells}
use Rattle.ldm_model.specs.History.{after}
use Rattle.ldm_conf.specs.declared.command.Command.{Command}
use Rattle.ldm_conf.specs.Confs.{command_view, conf_view, request_view}
use Rattle.ldm_node_command.specs.Commands.{StopsStarting, numbers_from, with_commands}
use Rattle.ldm_node_command.specs.Setup.{setup_of}
use Rattle.ldm_node_command.proofs.ConfLemmas.{takes}
use Rattle.std.specs.Option.{option_map}
use Rattle.ldm_disk.specs.Desks.{desk_tells}
use Rattle.ldm_node.specs.Clerks.{clerk_tells, left_tells}
use Rattle.ldm_node_command.proofs.Journaling.{behind_place, journals, put_back_first}
use Rattle.ldm_node_command.proofs.RunLemmas.{attends, fails_between, listened, listens_behind, worked}
use Rattle.ldm_node_command.proofs.run.run_steps.Goals as goal

pub returns-in_err-shared-clause-ends : goal.returns-in_err-shared-clause-ends
returns-in_err-shared-clause-ends g c = λ log_before log_after.
    let p = err_from_is_err_and c.from_residual-in_err-shared.result c.from_residual-in_err-shared.ensures.1 in
    let taken = takes c.in_ok-conf.conf c.args.setup.now.conf.now (g.F.Store.tells c.args.store.now) (g.F.Store.tells c.take_conf.new.store) c.in_ok-conf.ensures.takes
    c.in_ok-conf.ensures.completes in
    rw (p.1, p.2) ((conf_view c.in_ok-conf.conf, taken, c.in_err-shared.ensures.fault, record { net = refl; kept = refl; port = refl; desk = refl }, refl), refl)

pub returns-in_err-resumed-clause-ends : goal.returns-in_err-resumed-clause-ends
returns-in_err-resumed-clause-ends g c = λ log_before log_after.
    let p = err_from_is_err_and c.from_residual-in_err-resumed.result c.from_residual-in_err-resumed.ensures.1 in
    let taken = takes c.in_ok-conf.conf c.args.setup.now.conf.now (g.F.Store.tells c.args.store.now) (g.F.Store.tells c.take_conf.new.store) c.in_ok-conf.ensures.takes
    c.in_ok-conf.ensures.completes in
    let fails = c.in_err-resumed.ensures.fails in
    rw (p.1, p.2) (
      (
        conf_view c.in_ok-conf.conf,
        taken,
        c.in_ok-shared.ensures.good,
        record { shared = _; made = c.in_ok-shared.ensures.made; journal = fails.0; fails = fails.1 },
        c.put_back.ensures.asked,
        c.put_back.ensures.stations,
        refl,
      ),
      refl,
    )

pub returns-in-Err-clause-ends : goal.returns-in-Err-clause-ends
returns-in-Err-clause-ends g c = λ log_before log_after.
    let desks = desk_tells g.N.DeskDisk.Disk.tells g.N.StationLog.Sink.tells g.N.StationClock.Clock.tells g.N.StationGate.Gate.tells in
    let taken = takes c.in_ok-conf.conf c.args.setup.now.conf.now (g.F.Store.tells c.args.store.now) (g.F.Store.tells c.take_conf.new.store) c.in_ok-conf.ensures.takes
    c.in_ok-conf.ensures.completes in
    let fails =
    fails_between c.in-Err.why (g.N.Dial.tells c.args.net.now) (g.N.Dial.tells c.put_back.new.net) (g.N.Dial.tells c.listen.new.net) (g.N.Dial.tells c.keep_clerk.new.net)
    c.in_ok-resumed.ensures.same c.keep_clerk.ensures.same c.in-Err.ensures.fails in (
      (
        conf_view c.in_ok-conf.conf,
        taken,
        c.in_ok-shared.ensures.good,
        fails,
        c.keep_clerk.ensures.asked ∙ c.listen.ensures.asked,
        c.keep_clerk.ensures.kept ∙ c.listen.ensures.kept ∙ c.put_back.ensures.stations,
        refl,
        put_back_first (setup_of c.args.setup.now) (conf_view c.in_ok-conf.conf) _ c.in_ok-shared.ensures.made _ (option_map (clerk_tells desks) c.in_ok-resumed.resumed.clerk)
            c.in_ok-resumed.resumed.lasts.items c.in_ok-resumed.ensures.back (option_map desks (g.N.Desks.kept_desk c.keep_clerk.new.net)) c.keep_clerk.ensures.desk,
      ),
      refl,
    )

pub returns-in-Err-start_commands-clause-ends : goal.returns-in-Err-start_commands-clause-ends
returns-in-Err-start_commands-clause-ends g c = λ log_before log_after.
    let tells =
    station_tells g.N.StationDoor.Door.tells g.N.StationDial.Dial.tells g.N.StationLog.Sink.tells g.N.StationClock.Clock.tells g.N.StationGate.Gate.tells in
    let desks = desk_tells g.N.DeskDisk.Disk.tells g.N.StationLog.Sink.tells g.N.StationClock.Clock.tells g.N.StationGate.Gate.tells in
    let setup = setup_of c.args.setup.now in
    let conf = conf_view c.in_ok-conf.conf in
    let taken = takes c.in_ok-conf.conf c.args.setup.now.conf.now (g.F.Store.tells c.args.store.now) (g.F.Store.tells c.take_conf.new.store) c.in_ok-conf.ensures.takes
    c.in_ok-conf.ensures.completes in
    let old = g.L.Launcher.tells c.args.launcher.now in
    let new = g.L.Launcher.tells c.start_commands.new.launcher in
    let stopped =
    subst (λ (commands : List Command). StopsStarting c.in-Err-start_commands.why (map command_view commands) old new) c.as_slice.ensures.value c.in-Err-start_commands.ensures.stopped in
    let net = c.keep_clerk-in-Err-start_commands.new.net in
    let given = c.in-Ok.stations.items in
    let listens =
    listens_behind tells setup conf given (g.N.Dial.tells c.args.net.now) (g.N.Dial.tells c.put_back.new.net) (g.N.Dial.tells c.listen.new.net) c.in_ok-resumed.ensures.same
    c.in-Ok.ensures.listens in
    let kept =
    listened tells setup conf given (g.N.Net.kept net) (g.N.Dial.tells c.args.net.now) (g.N.Dial.tells c.listen.new.net) (g.N.Dial.tells net)
    (c.keep_clerk-in-Err-start_commands.ensures.kept ∙ c.keep.ensures.kept) (c.keep_clerk-in-Err-start_commands.ensures.same ∙ c.keep.ensures.same) listens in (
      (
        conf,
        taken,
        c.in_ok-shared.ensures.good,
        kept,
        c.keep_clerk-in-Err-start_commands.ensures.asked ∙ c.keep.ensures.asked ∙ c.listen.ensures.asked,
        stopped,
        put_back_first setup conf _ c.in_ok-shared.ensures.made _ (option_map (clerk_tells desks) c.in_ok-resumed.resumed.clerk) c.in_ok-resumed.resumed.lasts.items
            c.in_ok-resumed.ensures.back (option_map desks (g.N.Desks.kept_desk net)) c.keep_clerk-in-Err-start_commands.ensures.desk,
      ),
      refl,
    )

pub returns-clause-ends : goal.returns-clause-ends
returns-clause-ends g c = λ log_before log_after.
    let tells =
    station_tells g.N.StationDoor.Door.tells g.N.StationDial.Dial.tells g.N.StationLog.Sink.tells g.N.StationClock.Clock.tells g.N.StationGate.Gate.tells in
    let desks = desk_tells g.N.DeskDisk.Disk.tells g.N.StationLog.Sink.tells g.N.StationClock.Clock.tells g.N.StationGate.Gate.tells in
    let setup = setup_of c.args.setup.now in
    let conf = conf_view c.in_ok-conf.conf in
    let taken = takes c.in_ok-conf.conf c.args.setup.now.conf.now (g.F.Store.tells c.args.store.now) (g.F.Store.tells c.take_conf.new.store) c.in_ok-conf.ensures.takes
    c.in_ok-conf.ensures.completes in
    let old = g.L.Launcher.tells c.args.launcher.now in
    let started = g.L.Launcher.tells c.start_commands.new.launcher in
    let new = g.L.Launcher.tells c.wait_for_commands-waited.new.launcher in
    let numbers : c.as_slice-2.result.now ≡ numbers_from old.next conf.commands =
    c.as_slice-2.ensures.value ∙ c.in-Ok-start_commands.ensures.numbers ∙ ap (λ (commands : List Command). numbers_from old.next (map command_view commands)) c.as_slice.ensures.value in
    let all : started ≡ with_commands conf.commands old =
    c.in-Ok-start_commands.ensures.started ∙ ap (λ (commands : List Command). with_commands (map command_view commands) old) c.as_slice.ensures.value in
    let before = g.N.Dial.tells c.args.net.now in
    let net = c.keep_recorded-recorded.new.net in
    let given = c.in-Ok.stations.items in
    let left = c.work-book.result in
    let recorded = option_map (left_tells desks) left.recorded in
    let clerk = option_map (clerk_tells desks) c.in_ok-resumed.resumed.clerk in
    let lasts = c.in_ok-resumed.resumed.lasts.items in
    let back = c.in_ok-resumed.ensures.back in
    let count : vec_len c.in-Ok.stations + 1 ≡ c.in_ok-shared.shared.passes =
    omega (
      arith,
      c.in_ok-shared.ensures.count,
      c.in-Ok.ensures.listens.count,
      c.in-Ok.stations.ok,
      length-map c.in_ok-conf.conf.requests.items request_view,
    ) in
    let listens =
    listens_behind tells setup conf given before (g.N.Dial.tells c.put_back.new.net) (g.N.Dial.tells c.listen.new.net) c.in_ok-resumed.ensures.same c.in-Ok.ensures.listens in (
      conf,
      taken,
      record {
        good = c.in_ok-shared.ensures.good;
        at_port = c.keep_recorded-recorded.ensures.asked ∙ c.keep_stations.ensures.asked ∙ c.listen.ensures.asked;
        given = given;
        listens =
            listened tells setup conf given given before (g.N.Dial.tells c.listen.new.net) (g.N.Dial.tells net) refl
            (c.keep_recorded-recorded.ensures.same ∙ c.keep_stations.ensures.same) listens;
        lasts = lasts;
        last = left.pass;
        works =
            worked tells setup conf lasts given left.stations.items (g.N.Net.kept net) left.pass left.end (c.keep_recorded-recorded.ensures.kept ∙ c.keep_stations.ensures.kept)
            c.work-book.ensures.works;
        left = recorded;
        journal =
            journals setup conf c.in_ok-shared.shared c.in_ok-shared.ensures.made left.pass c.put_back.new.passes.items clerk lasts recorded back
            (c.work-book.ensures.recorded back.pass (behind_place setup conf c.in_ok-shared.shared c.put_back.new.passes.items clerk lasts back (vec_len c.in-Ok.stations) count))
            c.work-book.ensures.record_causes;
        recorded = c.keep_recorded-recorded.ensures.end;
        desk = c.keep_recorded-recorded.ensures.desk;
        attends = attends c.wait_for_commands-waited.result conf c.as_slice-2.result.now old started new numbers all c.wait_for_commands-waited.ensures.waits;
        line = c.write_stat-written.ensures.written (after c.args.setup.now.arena c.args.setup.now.slots left.pass.seen) c.work-book.ensures.stands;
      },
    )
