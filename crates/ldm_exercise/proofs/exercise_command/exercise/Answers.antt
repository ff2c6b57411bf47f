use Rattle.std.proofs.Common.{refl, subst}
use Rattle.ldm_status.specs.Streams.{StreamsRecord}
use Rattle.ldm_status.specs.declared.status.Status.{Status}
use Rattle.ldm_status.specs.Status.{Reports}
use Rattle.ldm_exercise.proofs.EndingLemmas.{completes, obeys}
use Rattle.ldm_exercise.proofs.exercise_command.exercise.Goals as goal

pub returns-clause-ends : goal.returns-clause-ends
returns-clause-ends g c = λ source. record {
  ending = c.run_exercise-ending.result;
  ends = c.run_exercise-ending.ensures.ends;
  reports = subst (λ (e : Status). Reports e c.report.result (g.E.Sink.tells c.args.streams.now.log) (g.E.Sink.tells c.report.new.log)) c.status_of.ensures c.report.ensures.reports;
  source = refl;
}

pub returns-clause-completes : goal.returns-clause-completes
returns-clause-completes g c = λ source.
    let streams = c.args.streams.now in
    let old : StreamsRecord = record { source = source streams.source; sink = g.K.Sink.tells streams.sink; log = g.E.Sink.tells streams.log } in
    let new : StreamsRecord = record { source = source streams.source; sink = g.K.Sink.tells c.run_exercise-ending.new.sink; log = g.E.Sink.tells c.report.new.log } in
    completes c.args.number c.args.count old new c.run_exercise-ending.result c.report.result c.run_exercise-ending.ensures.ends
    (subst (λ (e : Status). Reports e c.report.result old.log new.log) c.status_of.ensures c.report.ensures.reports)

pub returns-clause-law : goal.returns-clause-law
returns-clause-law g c = λ source.
    let streams = c.args.streams.now in
    let old : StreamsRecord = record { source = source streams.source; sink = g.K.Sink.tells streams.sink; log = g.E.Sink.tells streams.log } in
    let new : StreamsRecord = record { source = source streams.source; sink = g.K.Sink.tells c.run_exercise-ending.new.sink; log = g.E.Sink.tells c.report.new.log } in
    obeys c.args.number c.args.count old new c.histories_are_lawful.ensures refl c.run_exercise-ending.result c.run_exercise-ending.ensures.ends c.run_exercise-ending.ensures.legal
