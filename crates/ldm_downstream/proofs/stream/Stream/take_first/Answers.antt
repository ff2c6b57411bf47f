use Rattle.ldm_rpc.specs.Streams.{Position}
use Rattle.ldm_downstream.specs.ReceiverView.{moment}
use Rattle.ldm_downstream.proofs.Found.{first-in_place}
use Rattle.ldm_downstream.proofs.stream.Stream.take_first.Goals as goal

pub returns-clause-turns : goal.returns-clause-turns
returns-clause-turns g c =
    let inside = c.self.inside in
    let p : Position = record { reading = inside.records; begins = inside.begins; came = inside.came } in
    let said = c.in-Some.ensures in
    rw (← c.self.view_is)
    (first-in_place c.args.now p c.args.bytes.now c.in-Some.found.content.now c.in-Some.found.taken c.take_content.new.end
    (moment inside.intake c.args.pass.now c.args.out.now c.args.notes.now)
    (moment c.take_content.new.intake c.take_content.new.pass c.take_content.new.out c.take_content.new.notes)
    (record { whole = said.content; count = said.taken.0; most = said.taken.1; some = said.taken.2; stays = said.stays }) c.take_content.ensures.finds)
