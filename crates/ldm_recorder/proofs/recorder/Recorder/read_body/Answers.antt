use Rattle.std.proofs.Common.{◌∙◌}
use Rattle.ldm_recorder.proofs.Products.{body_whole, buffer_whole}
use Rattle.ldm_recorder.proofs.recorder.Recorder.read_body.Goals as goal

pub returns-in-Done-clause-read : goal.returns-in-Done-clause-read
returns-in-Done-clause-read g c = λ body holds.
    let size = c.args.held.now.info.size in
    let made = rw c.size-size.ensures at c.in-Done.ensures in (
      buffer_whole size body c.read_onto.new.out.items c.reserve.new.self.items holds.whole (c.reserve.ensures.items ∙ c.clear.ensures.items) (made.bytes body holds),
      body_whole c.args.pass.now c.read_onto.new.pass c.args.self.now.reader.k size body holds.whole (made.done body holds),
      made.holds body holds,
    )
