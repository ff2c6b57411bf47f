use Rattle.std.proofs.Common.{arith, sym}
use Rattle.std.proofs.lemmas.List.{map-id}
use Rattle.ldm_recorder.proofs.Finding.{noted_more}
use Rattle.ldm_recorder.proofs.note.take_note.Goals as goal

pub loop-line-init : goal.loop-line-init
loop-line-init c = sym (map-id c.args.lines.now)

pub loop-line-preserved : goal.loop-line-preserved
loop-line-preserved c =
    noted_more c.args.note.now c.args.lines.now c.loop-line.lines c.loop-line.line-index c.line-item.result c.last_in-line.result (omega arith) c.loop-line.invariant
    c.last_in-line.ensures
