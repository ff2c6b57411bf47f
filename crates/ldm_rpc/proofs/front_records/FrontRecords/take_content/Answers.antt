use Rattle.std.proofs.Common.{◌≡◌, ◌-◌, ◌++◌, take, arith}
use Rattle.std.proofs.lemmas.Grind.{common_steps}
use Rattle.ldm_rpc.specs.Reading.{stage_before}
use Rattle.ldm_rpc.proofs.Steps.{takes_some_content}
use Rattle.ldm_rpc.proofs.front_records.FrontRecords.take_content.Goals as goal

pub returns-clause-taken : goal.returns-clause-taken
returns-clause-taken c =
    let content : c.add.new.self.content ≡ c.self.inside.kept.content ++ take c.min-count.result c.args.piece.now = grind (arith, common_steps) in
    let ended : c.stage_before-self-inside.result ≡ stage_before (c.args.left - c.min-count.result) c.args.last = c.stage_before-self-inside.ensures in
    takes_some_content c.self.inside.marks.limit c.self.inside.kept.content c.add.new.self.content c.self.inside.marks.next_header_at c.self.inside.marks.stage c.stage_before-self-inside.result
    c.args.self.now c.args.left c.args.last c.args.piece.now c.min-count.result c.self.view_is c.requires.stage (grind arith) (omega (arith, c.min-count.ensures)) (omega (arith, c.min-count.ensures)) content ended
