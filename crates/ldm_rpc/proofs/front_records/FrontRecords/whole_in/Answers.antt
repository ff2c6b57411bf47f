use Rattle.std.proofs.Common.{◌∙◌, refl, ap, sym}
use Rattle.ldm_rpc.specs.Reading.{Reading, begun}
use Rattle.ldm_rpc.proofs.Single.{shows}
use Rattle.ldm_rpc.proofs.front_records.FrontRecords.whole_in.Goals as goal

pub returns : goal.returns
returns c =
    let is = ap (λ (r : Reading). begun r.limit) c.self.view_is ∙ sym (c.if-not-is_begun.ensures.is refl) in
    let all = shows c.self.inside.marks.limit c.args.self.now c.args.piece.now c.single_in.result is c.single_in.ensures.single c.single_in.ensures.none in
    record { content = all.content; taken = all.taken; stays = all.stays; within = all.within; begins = all.begins; none = all.none }
