use Rattle.std.proofs.Common.{[], inr, refl}
use Rattle.ldm_model.specs.State.{empty}
use Rattle.ldm_script.specs.Resolve.{new_play}
use Rattle.ldm_play.specs.OnBook.{beside}
use Rattle.ldm_play.proofs.RunLemmas.{played_done}
use Rattle.ldm_play.proofs.save_command.save_new.Goals as goal
use Rattle.ldm_play.proofs.save_command.save_new.Goals.{in-Done, in_default}

pub returns-clause-ends : goal.returns-clause-ends
returns-clause-ends g c = λ log_before log_after.
    let limits = c.in_ok-book.ensures.limits in
    let old = beside log_before (g.S.Source.tells c.args.source.now) (g.K.Sink.tells c.args.sink.now) in
    let new = beside log_after (g.S.Source.tells c.play_on.new.source) (g.K.Sink.tells c.play_on.new.sink) in
    let played = c.in_ok-played.played in
    let plays = c.in_ok-played.ensures.plays (empty c.args.arena c.args.slots) [] log_before log_after c.in_ok-book.ensures.stands in
    elim c.match-played.branch [
      | in-Done w ↦ rw (w.result-is, w.disk-is) (limits.0, limits.1, (played.book, played_done played.end (new_play c.args.arena c.args.slots) played.book old new w.in-Done.is plays, w.save_file.ensures.saves))
      | in_default w ↦ rw (w.result-is, w.disk-is) (limits.0, limits.1, (w.in_default.not-Done, plays.plays, refl))
    ]

pub returns-clause-law : goal.returns-clause-law
returns-clause-law g c = λ log_before log_after.
    inr (c.in_ok-played.ensures.law c.args.arena c.args.slots [] log_before log_after tt c.in_ok-book.ensures.stands)

pub returns-clause-comes : goal.returns-clause-comes
returns-clause-comes g c = λ log_before log_after runs.
    elim c.match-played.branch [
      | in-Done w ↦ rw w.result-is tt
      | in_default w ↦ rw w.result-is (w.in_default.not-Done (c.in_ok-played.ensures.completes (empty c.args.arena c.args.slots) [] log_before log_after c.in_ok-book.ensures.stands runs))
    ]
