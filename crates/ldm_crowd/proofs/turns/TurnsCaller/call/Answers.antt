use Rattle.std.proofs.Common.{length, take, drop, rules}
use Rattle.ldm_model.specs.declared.event.Event.TheVariants as event
use Rattle.ldm_model.specs.declared.replies.FillReply.{FillReply}
use Rattle.ldm_model.specs.Answers.{fill_answer}
use Rattle.ldm_script.specs.OrderView.{bytes_of}
use Rattle.ldm_shared.specs.Passes.{Grows}
use Rattle.ldm_crowd.proofs.Brought.{front, done-at, brings}
use Rattle.ldm_crowd.proofs.turns.TurnsCaller.call.Goals as goal
use Rattle.ldm_crowd.proofs.turns.TurnsCaller.call.Goals.{in-Insert+in_ok-insert-in-Insert, in-OpenCursor+in_ok-done-in-OpenCursor, in-Step+in_ok-done-in-Step, in-Read+in_ok-done-in-Read, in-Release+in_ok-done-in-Release, in-Close+in_ok-done-in-Close, in-Look+in_ok-done-in-Look, in-Expire+in_ok-done-in-Expire, in-Tally+in_ok-done-in-Tally, in-Stat+in_ok-done-in-Stat, in-Reserve+in_ok-done-in-Reserve, in-Fill+in_ok-done-in-Fill, in-Commit+in_ok-done-in-Commit, in-Discard+in_ok-done-in-Discard}

pub returns-clause-done : goal.returns-clause-done
returns-clause-done g c = elim c.match-call.branch [
  | in-Insert+in_ok-insert-in-Insert w ↦ rw (w.result-is, w.pass-is) (search rules)
  | in-OpenCursor+in_ok-done-in-OpenCursor w ↦ rw (w.result-is, w.pass-is) (search rules)
  | in-Step+in_ok-done-in-Step w ↦ rw (w.result-is, w.pass-is) (search rules)
  | in-Read+in_ok-done-in-Read w ↦ rw (w.result-is, w.pass-is) (search rules)
  | in-Release+in_ok-done-in-Release w ↦ rw (w.result-is, w.pass-is) (search rules)
  | in-Close+in_ok-done-in-Close w ↦ rw (w.result-is, w.pass-is) (search rules)
  | in-Look+in_ok-done-in-Look w ↦ rw (w.result-is, w.pass-is) (search rules)
  | in-Expire+in_ok-done-in-Expire w ↦ rw (w.result-is, w.pass-is) (search rules)
  | in-Tally+in_ok-done-in-Tally w ↦ rw (w.result-is, w.pass-is) (search rules)
  | in-Stat+in_ok-done-in-Stat w ↦ rw (w.result-is, w.pass-is) (search rules)
  | in-Reserve+in_ok-done-in-Reserve w ↦ rw (w.result-is, w.pass-is) (search rules)
  | in-Fill+in_ok-done-in-Fill w ↦
      let bytes = bytes_of w.in-Fill.body.now in
      let len = w.body_into-len in
      let taken = front bytes (drop (length bytes) c.args.body_room.now) len.new.into len.result len.ensures.len len.ensures.written in
      let call = event.Fill w.in-Fill.r in
      let made = done-at (λ (reply : FillReply). Grows c.args.pass.now w.fill.new.pass (call (take len.result len.new.into)) (fill_answer reply))
      w.fill.result w.in_ok-done-in-Fill.field-0 w.in_ok-done-in-Fill.ensures.done w.fill.ensures.done in
      rw (w.result-is, w.pass-is, w.from-in-Fill.ensures, w.in-Fill.is) (brings c.args.pass.now w.fill.new.pass call (take len.result len.new.into) bytes
      (fill_answer w.in_ok-done-in-Fill.field-0) taken made)
  | in-Commit+in_ok-done-in-Commit w ↦ rw (w.result-is, w.pass-is) (search rules)
  | in-Discard+in_ok-done-in-Discard w ↦ rw (w.result-is, w.pass-is) (search rules)
]

pub returns-clause-fits : goal.returns-clause-fits
returns-clause-fits g c = elim c.match-call.branch [
  | in-Insert+in_ok-insert-in-Insert w ↦ rw w.result-is (search rules)
  | in-OpenCursor+in_ok-done-in-OpenCursor w ↦ rw w.result-is (search rules)
  | in-Step+in_ok-done-in-Step w ↦ rw w.result-is (search rules)
  | in-Read+in_ok-done-in-Read w ↦ rw w.result-is (search rules)
  | in-Release+in_ok-done-in-Release w ↦ rw w.result-is (search rules)
  | in-Close+in_ok-done-in-Close w ↦ rw w.result-is (search rules)
  | in-Look+in_ok-done-in-Look w ↦ rw w.result-is (search rules)
  | in-Expire+in_ok-done-in-Expire w ↦ rw w.result-is (search rules)
  | in-Tally+in_ok-done-in-Tally w ↦ rw w.result-is (search rules)
  | in-Stat+in_ok-done-in-Stat w ↦ rw w.result-is (search rules)
  | in-Reserve+in_ok-done-in-Reserve w ↦ rw w.result-is (search rules)
  | in-Fill+in_ok-done-in-Fill w ↦ rw w.result-is (search rules)
  | in-Commit+in_ok-done-in-Commit w ↦ rw w.result-is (search rules)
  | in-Discard+in_ok-done-in-Discard w ↦ rw w.result-is (search rules)
]
