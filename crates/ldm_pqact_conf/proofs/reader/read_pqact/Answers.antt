use Rattle.std.proofs.Common.{◌≡◌, ap, arith}
use Rattle.ldm_pqact_conf.specs.Kept.{Reading}
use Rattle.ldm_pqact_conf.proofs.Readings.{at_the_start}
use Rattle.ldm_pqact_conf.proofs.reader.read_pqact.Goals as goal

pub loop-rest-init : goal.loop-rest-init
loop-rest-init c =
    let next : c.new-reader.result.next ≡ 1 = ap (λ (r : Reading). r.next) c.new-reader.ensures in
    (rw c.new-reader.ensures (at_the_start c.args.bytes.now), omega arith)
