use Rattle.std.proofs.Common.{◌≡◌, ap, subst, arith}
use Rattle.ldm_rpc.specs.Reading.{Reading}
use Rattle.ldm_rpc.specs.Taking.{answer_at}
use Rattle.ldm_rpc.proofs.Pushed.{HasTaken, all_taken, answers, end_taken}
use Rattle.ldm_rpc.proofs.front_records.FrontRecords.push.Goals as goal
use Rattle.ldm_rpc.proofs.front_records.FrontRecords.push.Goals.{then-loop-taken-test+else-is_open, else-loop-taken-test}

pub returns : goal.returns
returns c =
    let old = c.args.self.now in
    let now = c.loop-taken.self in
    let piece = c.args.piece.now in
    let n = c.loop-taken.taken in
    let ended : HasTaken old piece n now = elim c.loop-taken-test.branch [
      | then-loop-taken-test+else-is_open w ↦ end_taken old now piece n (grind arith) c.loop-taken.invariant
      | else-loop-taken-test w ↦ all_taken old now piece n (omega arith) c.loop-taken.invariant
    ] in
    let said : c.answer.result ≡ answer_at now.stage n =
    subst (λ stage. c.answer.result ≡ answer_at stage n) (ap (λ (r : Reading). r.stage) c.self-2.view_is) c.answer.ensures in
    let answer = answers old now piece n c.answer.result c.requires ended said in
    record {
      after = answer.after;
      taken = answer.taken;
      moves = answer.moves;
      ends = answer.ends;
      fault = answer.fault;
      stays = answer.stays;
    }
