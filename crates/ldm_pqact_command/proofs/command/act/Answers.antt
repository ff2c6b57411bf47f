use Rattle.std.proofs.Common.{Some, None, refl, arith}
use Rattle.ldm_pqact_command.specs.PqactRuns.{here_of, pqact_lent}
use Rattle.ldm_pqact_command.proofs.Gathered.{gathered_all}
use Rattle.ldm_pqact_command.proofs.Kept.{closes_count, gathered_stays, last_count, unreached_counted}
use Rattle.ldm_pqact_command.proofs.Stopping.{stopped_why}
use Rattle.ldm_pqact_command.proofs.command.act.Goals as goal

pub close-requires-clause-keeps : goal.close-requires-clause-keeps
close-requires-clause-keeps g c =
    let stays = gathered_stays g.F.Store.tells g.L.Launcher.tells _ _ _ _ c.in-Some.ensures.connects.1.holds.gathered.gathers in
    stays.keeps c.requires.may.keeps

pub close-requires-clause-why : goal.close-requires-clause-why
close-requires-clause-why g c = stopped_why g.F.Store.tells g.L.Launcher.tells _ _ _ _ c.in-Some.ensures.connects.1.holds.gathered.gathers

pub returns-in-Some-clause-ran : goal.returns-in-Some-clause-ran
returns-in-Some-clause-ran g c =
    let asked = c.in-Some.ensures.connects in
    let now = c.gather-gathered.new in
    let closed = c.close.ensures.closed in
    record {
      gathered = Some c.in-Some.end;
      mid = here_of now.handler asked.0 (pqact_lent (g.N.Dial.tells now.net) now.first now.second (g.E.Sink.tells now.log) (g.C.Clock.tells now.clock));
      connects = asked.1;
      closes = record {
        acts = gathered_all g.F.Store.tells g.L.Launcher.tells c.products_stay.ensures.stays _ _ _ _ asked.1.holds.gathered.gathers;
        closes = closed.0;
        is_end = closed.1;
        others = refl;
      };
    }

pub returns-in-None-clause-ran : goal.returns-in-None-clause-ran
returns-in-None-clause-ran g c =
    let asked = c.in-None.ensures.connects in
    let now = c.gather-gathered.new in
    record {
      gathered = None;
      mid = here_of now.handler asked.0 (pqact_lent (g.N.Dial.tells now.net) now.first now.second (g.E.Sink.tells now.log) (g.C.Clock.tells now.clock));
      connects = asked.1;
      closes = (c.at.ensures, refl);
    }

pub returns-in-Some-clause-counts_kept : goal.returns-in-Some-clause-counts_kept
returns-in-Some-clause-counts_kept g c =
    let stays = gathered_stays g.F.Store.tells g.L.Launcher.tells _ _ _ _ c.in-Some.ensures.connects.1.holds.gathered.gathers in
    let all = c.close.ensures.closed.0 in
    let closed = closes_count all.answer _ _ all.closes.closes in
    let last = last_count c.in-Some.end _ _ _ _ all.keeps in
    let stand = c.in-Some.ensures.counts_kept in
    record {
      net = stand.net;
      ended = stand.ended;
      failed = stand.failed;
      store = omega (arith, stays.counted.store, closed.store, last.0);
      launcher = omega (arith, stays.counted.launcher, closed.launcher, last.1);
      log = stand.log;
    }

pub returns-in-None-clause-counts_kept : goal.returns-in-None-clause-counts_kept
returns-in-None-clause-counts_kept g c =
    let counted = unreached_counted g.F.Store.tells g.L.Launcher.tells _ _ _ c.in-None.ensures.connects.1 in
    let stand = c.in-None.ensures.counts_kept in
    record { net = stand.net; ended = stand.ended; failed = stand.failed; store = counted.store; launcher = counted.launcher; log = stand.log }
