use Rattle.ldm_rpc.specs.Streams.{Position}
use Rattle.ldm_downstream.specs.ReceiverView.{moment}
use Rattle.ldm_downstream.proofs.Found.{first-faulty}
use Rattle.ldm_downstream.proofs.stream.Stream.take_pushed.Goals as goal

pub returns-in-Err-clause-turns : goal.returns-in-Err-clause-turns
returns-in-Err-clause-turns g c =
    let inside = c.self.inside in
    let p : Position = record { reading = inside.records; begins = inside.begins; came = inside.came } in
    rw (← c.self.view_is, c.end_by_fault.ensures)
    (first-faulty c.args.now p c.args.bytes.now c.in-Err.fault c.in-Err.ensures.fault
    (moment inside.intake c.args.pass.now c.args.out.now c.args.notes.now))
