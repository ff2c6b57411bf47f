use Rattle.std.proofs.Common.{length, take, drop}
use Rattle.ldm_model.specs.declared.event.Event.TheVariants as event
use Rattle.ldm_script.specs.OrderView.{bytes_of}
use Rattle.ldm_crowd.proofs.Brought.{front, turn-brings}
use Rattle.ldm_crowd.proofs.turns.TurnsCaller.insert.Goals as goal

pub returns-clause-done : goal.returns-clause-done
returns-clause-done g c =
    let bytes = bytes_of c.args.body.now in
    let len = c.body_into-len in
    let taken = front bytes (drop (length bytes) c.args.body_room.now) len.new.into len.result len.ensures.len len.ensures.written in
    turn-brings c.done.result c.insert.result c.args.pass.now c.insert.new.pass (event.Insert c.args.now c.args.info.now) (take len.result len.new.into) bytes taken
    c.done.ensures.done c.insert.ensures.done
