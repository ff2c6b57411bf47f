use Rattle.std.proofs.Common.{Bool, false, refl, sym, subst}
use Rattle.std.specs.Prelude.{Ok, Err}
use Rattle.ldm_outside.specs.Dial.{Asked}
use Rattle.ldm_pqstats.specs.Runs.{SendsIf}
use Rattle.ldm_pqstats.specs.Sending.{outside_of}
use Rattle.ldm_pqstats.proofs.command.tell_all.Goals as goal

pub returns-in-Ok-send_hours-clause-tells : goal.returns-in-Ok-send_hours-clause-tells
returns-in-Ok-send_hours-clause-tells g c =
    let peer : Asked = record { host = c.args.asked.now.host.now; port = c.args.asked.now.port } in
    let mid = outside_of (g.N.Dial.tells c.args.net.now) (g.K.Sink.tells c.write_report.new.sink) (g.C.Clock.tells c.args.clock.now) in
    let new = outside_of (g.N.Dial.tells c.send_hours.new.net) (g.K.Sink.tells c.send_hours.new.sink) (g.C.Clock.tells c.send_hours.new.clock) in
    record {
      mid = mid;
      reports = record { writes = c.in-Ok.ensures.writes; others = refl };
      kept = c.in-Ok.ensures.faults_kept;
      sends = subst (λ (b : Bool). SendsIf b (Ok c.in-Ok-send_hours.refused) peer c.args.stats.now mid new) (sym c.if-asked.true) c.in-Ok-send_hours.ensures.sends;
    }

pub returns-in-Err-send_hours-clause-tells : goal.returns-in-Err-send_hours-clause-tells
returns-in-Err-send_hours-clause-tells g c =
    let peer : Asked = record { host = c.args.asked.now.host.now; port = c.args.asked.now.port } in
    let mid = outside_of (g.N.Dial.tells c.args.net.now) (g.K.Sink.tells c.write_report.new.sink) (g.C.Clock.tells c.args.clock.now) in
    let new = outside_of (g.N.Dial.tells c.send_hours.new.net) (g.K.Sink.tells c.send_hours.new.sink) (g.C.Clock.tells c.send_hours.new.clock) in
    record {
      mid = mid;
      reports = record { writes = c.in-Ok.ensures.writes; others = refl };
      kept = c.in-Ok.ensures.faults_kept;
      sends = subst (λ (b : Bool). SendsIf b (Err c.in-Err-send_hours.why) peer c.args.stats.now mid new) (sym c.if-asked.true) c.in-Err-send_hours.ensures.sends;
    }

pub returns-else-asked-clause-tells : goal.returns-else-asked-clause-tells
returns-else-asked-clause-tells g c =
    let peer : Asked = record { host = c.args.asked.now.host.now; port = c.args.asked.now.port } in
    let mid = outside_of (g.N.Dial.tells c.args.net.now) (g.K.Sink.tells c.write_report.new.sink) (g.C.Clock.tells c.args.clock.now) in
    record {
      mid = mid;
      reports = record { writes = c.in-Ok.ensures.writes; others = refl };
      kept = c.in-Ok.ensures.faults_kept;
      sends = subst (λ (b : Bool). SendsIf b (Ok false) peer c.args.stats.now mid mid) (sym c.if-asked.false) (refl, refl);
    }
