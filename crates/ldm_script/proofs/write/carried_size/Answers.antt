use Rattle.std.proofs.Common.{arith}
use Rattle.ldm_script.specs.OrderView.{bytes_of}
use Rattle.ldm_script.proofs.Appending.{length-body_text}
use Rattle.ldm_script.proofs.write.carried_size.Goals as goal

pub returns-in-Insert-clause-room : goal.returns-in-Insert-clause-room
returns-in-Insert-clause-room c =
    let writable = rw c.in-Insert.is at c.requires in
    let most = length-body_text (bytes_of c.in-Insert.body) in
    rw c.in-Insert.is (omega (arith, writable.0, c.size.ensures))

pub returns-in-Fill-clause-room : goal.returns-in-Fill-clause-room
returns-in-Fill-clause-room c =
    let most = length-body_text (bytes_of c.in-Fill.body) in
    rw c.in-Fill.is (omega (arith, c.len.ensures))
