use Rattle.std.proofs.Common.{length, take, drop}
use Rattle.ldm_model.specs.declared.event.Event.TheVariants as event
use Rattle.ldm_model.specs.Answers.{insert_answer}
use Rattle.ldm_script.specs.OrderView.{bytes_of}
use Rattle.ldm_calls.proofs.Brought.{front, brings}
use Rattle.ldm_calls.proofs.on_book.ActorCaller.insert.Goals as goal

pub returns-clause-done : goal.returns-clause-done
returns-clause-done c =
    let bytes = bytes_of c.args.body.now in
    let len = c.body_into-len in
    let taken = front bytes (drop (length bytes) c.args.body_room.now) len.new.into len.result len.ensures.len len.ensures.written in
    brings c.args.self.now c.args.queue.now (event.Insert c.args.now c.args.info.now) (take len.result len.new.into) bytes (insert_answer c.insert.result)
    c.insert.new.self taken (record {
      actor = c.actor_is_possible.ensures;
      possible = c.insert_is_possible.ensures;
      answers = c.insert.ensures.answers;
    })
