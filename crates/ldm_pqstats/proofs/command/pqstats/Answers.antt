use Rattle.std.proofs.Common.{refl, arith}
use Rattle.ldm_pqstats.specs.Runs.{lent_of}
use Rattle.ldm_pqstats.proofs.Counted.{counts_of}
use Rattle.ldm_pqstats.proofs.command.pqstats.Goals as goal

pub returns-clause-ends : goal.returns-clause-ends
returns-clause-ends g c =
    let collected = c.gather_each-collected.result in
    let old = lent_of (g.N.Dial.tells c.args.net.now) (g.K.Sink.tells c.args.sink.now) (g.E.Sink.tells c.args.log.now) (g.C.Clock.tells c.args.clock.now) in
    let mid = lent_of (g.N.Dial.tells c.gather_each-collected.new.net) (g.K.Sink.tells c.args.sink.now) (g.E.Sink.tells c.gather_each-collected.new.log)
    (g.C.Clock.tells c.gather_each-collected.new.clock) in
    record {
      gathered = collected.end;
      counter = collected.taker;
      mid = mid;
      counts =
          counts_of c.args.asked.now c.in-Some.stats collected.end c.create-counter.result collected.taker old mid
          c.gather_each-collected.ensures.ends c.create-counter.ensures
          c.in-Some.ensures.empty c.in-Some.ensures.window refl;
      kept = (let stand = c.gather_each-collected.ensures.counts_kept in record { net = stand.net; ended = stand.ended; failed = stand.failed; sink = omega arith; log = stand.log });
      ending = c.tell-end.result;
      tells = c.tell-end.ensures.tells;
      reports = c.report.ensures.reports;
    }
