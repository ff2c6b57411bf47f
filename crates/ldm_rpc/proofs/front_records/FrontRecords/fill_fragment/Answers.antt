use Rattle.std.proofs.Common.{◌<◌, ◌≤◌, arith}
use Rattle.ldm_rpc.proofs.Filling.{is_filled}
use Rattle.ldm_rpc.proofs.front_records.FrontRecords.fill_fragment.Goals as goal

pub returns-clause-filled : goal.returns-clause-filled
returns-clause-filled g c =
    let n = c.in_ok-count.count in
    let told = c.in_ok-count.ensures in
    let more : 0 < c.args.left = grind arith in
    let room : n < c.args.left = omega (arith, more, told.count, c.fillable-room.ensures.left) in
    let within : n ≤ c.args.most = omega (arith, told.count, c.fillable-room.ensures.most) in
    is_filled c.self.inside.marks.limit c.self.inside.kept.content c.fill.new.self.content c.self.inside.marks.next_header_at c.self.inside.marks.stage
    c.stage_before-self-inside.result c.args.self.now c.args.left c.args.last c.args.most n c.self.view_is c.requires.stage told.content told.count.0 room within
    c.stage_before-self-inside.ensures
