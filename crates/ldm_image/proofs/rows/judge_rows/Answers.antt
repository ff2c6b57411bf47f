use Rattle.std.proofs.Common.{arith}
use Rattle.ldm_image.proofs.TableLemmas.{more_rows, next_from, rows_end, rows_stop}
use Rattle.ldm_image.proofs.rows.judge_rows.Goals as goal

pub returns-in-Err : goal.returns-in-Err
returns-in-Err c =
    λ file holds.
    let l = c.loop-i in
    let facts = l.invariant.1 file holds in
    rows_stop file l.notes.items c.args.sizes.now l.i c.in-Err.at holds.sized l.invariant.0 (omega arith) facts.1 (c.in-Err.ensures.judged file holds facts.0)

pub loop-i-preserved : goal.loop-i-preserved
loop-i-preserved c =
    let l = c.loop-i in
    let note = c.in-Ok.note in (
      omega (arith, l.invariant.0, c.in_default.ensures.len),
      λ file holds.
          let facts = l.invariant.1 file holds in
          let judged = c.in-Ok.ensures.judged file holds facts.0 in (
            next_from file note c.get-time.result l.i c.get-time.ensures.value judged.1,
            more_rows file l.notes.items c.push.new.self.items note l.i l.invariant.0 c.in_default.ensures.items facts.1 judged,
          ),
    )

pub returns : goal.returns
returns c =
    λ file holds.
    let l = c.loop-i in
    rows_end file l.notes.items c.args.sizes.now l.i holds.sized l.invariant.0 (omega (arith, c.loop-i-test.false, l.auto.i-end)) (l.invariant.1 file holds).1
