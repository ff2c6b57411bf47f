use Rattle.std.proofs.Common.{ℕ, List, Vec, Global, arith, subst}
use Rattle.std.proofs.lemmas.Result.{err_from_is_err_and}
use Rattle.ldm_outside.specs.Io.{Takes, WritesFront}
use Rattle.ldm_crowd.proofs.CrowdTextLemmas.{one_taken, one_fails}
use Rattle.ldm_crowd.proofs.crowd_command.write_texts.Goals as goal

pub returns-in_err-write_all-clause-written : goal.returns-in_err-write_all-clause-written
returns-in_err-write_all-clause-written g c =
    let p = err_from_is_err_and c.from_residual.result c.from_residual.ensures.1 in
    let mid = g.K.Sink.tells c.loop-text.sink in
    let new = g.K.Sink.tells c.write_all.new.sink in
    let failed = c.in_err-write_all.ensures.written in
    let front : WritesFront mid c.text-item.result.items new = subst (λ (t : List ℕ). WritesFront mid t new) c.as_slice.ensures.value failed.1 in
    rw (p.1)
    (one_fails (λ (v : Vec ℕ Global). v.items) c.args.texts.now c.loop-text.text-index c.text-item.result (g.K.Sink.tells c.args.sink.now) mid new c.loop-text-test.true c.text-item.is c.loop-text.invariant.written c.loop-text.invariant.faults_kept failed.0 front)

pub loop-text-preserved : goal.loop-text-preserved
loop-text-preserved g c =
    let mid = g.K.Sink.tells c.loop-text.sink in
    let new = g.K.Sink.tells c.write_all.new.sink in
    let here : Takes mid c.text-item.result.items new = subst (λ (t : List ℕ). Takes mid t new) c.as_slice.ensures.value c.in_ok-write_all.ensures.written in
    record {
      written = one_taken (λ (v : Vec ℕ Global). v.items) c.args.texts.now c.loop-text.text-index c.text-item.result (g.K.Sink.tells c.args.sink.now) mid new c.loop-text-test.true c.text-item.is c.loop-text.invariant.written here;
      faults_kept = omega (arith, c.loop-text.invariant.faults_kept, c.write_all.ensures.faults_kept);
    }
