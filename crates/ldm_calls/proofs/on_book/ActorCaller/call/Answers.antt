use Rattle.std.proofs.Common.{length, take, drop, rules}
use Rattle.ldm_model.specs.declared.event.Event.TheVariants as event
use Rattle.ldm_model.specs.Answers.{fill_answer}
use Rattle.ldm_script.specs.OrderView.{bytes_of}
use Rattle.ldm_calls.proofs.Brought.{front, brings}
use Rattle.ldm_calls.proofs.on_book.ActorCaller.call.Goals as goal
use Rattle.ldm_calls.proofs.on_book.ActorCaller.call.Goals.{in-Insert+in_ok-insert-in-Insert, in-OpenCursor, in-Step, in-Read, in-Release, in-Close, in-Look, in-Expire, in-Tally, in-Stat, in-Reserve, in-Fill, in-Commit, in-Discard}

pub returns-clause-done : goal.returns-clause-done
returns-clause-done c = elim c.match-call.branch [
  | in-Insert+in_ok-insert-in-Insert w ↦ rw (w.result-is, w.queue-is) (search rules)
  | in-OpenCursor w ↦ rw (w.result-is, w.queue-is) (search rules)
  | in-Step w ↦ rw (w.result-is, w.queue-is) (search rules)
  | in-Read w ↦ rw (w.result-is, w.queue-is) (search rules)
  | in-Release w ↦ rw (w.result-is, w.queue-is) (search rules)
  | in-Close w ↦ rw (w.result-is, w.queue-is) (search rules)
  | in-Look w ↦ rw (w.result-is, w.queue-is) (search rules)
  | in-Expire w ↦ rw (w.result-is, w.queue-is) (search rules)
  | in-Tally w ↦ rw (w.result-is, w.queue-is) (search rules)
  | in-Stat w ↦ rw (w.result-is, w.queue-is) (search rules)
  | in-Reserve w ↦ rw (w.result-is, w.queue-is) (search rules)
  | in-Fill w ↦
      let bytes = bytes_of w.in-Fill.body.now in
      let len = w.body_into-len in
      let taken = front bytes (drop (length bytes) c.args.body_room.now) len.new.into len.result len.ensures.len len.ensures.written in
      rw (w.result-is, w.queue-is, w.from-in-Fill.ensures, w.in-Fill.is) (brings c.args.self.now c.args.queue.now (event.Fill w.in-Fill.r)
      (take len.result len.new.into) bytes (fill_answer w.fill.result) w.fill.new.self taken (record {
        actor = c.actor_is_possible.ensures;
        possible = w.fill_is_possible.ensures;
        answers = w.fill.ensures.answers;
      }))
  | in-Commit w ↦ rw (w.result-is, w.queue-is) (search rules)
  | in-Discard w ↦ rw (w.result-is, w.queue-is) (search rules)
]

pub returns-clause-fits : goal.returns-clause-fits
returns-clause-fits c = elim c.match-call.branch [
  | in-Insert+in_ok-insert-in-Insert w ↦ rw w.result-is (search rules)
  | in-OpenCursor w ↦ rw w.result-is (search rules)
  | in-Step w ↦ rw w.result-is (search rules)
  | in-Read w ↦ rw w.result-is (search rules)
  | in-Release w ↦ rw w.result-is (search rules)
  | in-Close w ↦ rw w.result-is (search rules)
  | in-Look w ↦ rw w.result-is (search rules)
  | in-Expire w ↦ rw w.result-is (search rules)
  | in-Tally w ↦ rw w.result-is (search rules)
  | in-Stat w ↦ rw w.result-is (search rules)
  | in-Reserve w ↦ rw w.result-is (search rules)
  | in-Fill w ↦ rw w.result-is (search rules)
  | in-Commit w ↦ rw w.result-is (search rules)
  | in-Discard w ↦ rw w.result-is (search rules)
]
