use Rattle.std.proofs.Common.{◌≡◌, ◌∙◌, ◌+◌, ap, arith, List, Option, Some, subst, sym}
use Rattle.std.specs.Prelude.{slice_get}
use Rattle.ldm_types.specs.declared.signature.Signature.{Signature}
use Rattle.ldm_recorder.specs.declared.line.Line.{Line}
use Rattle.ldm_recorder.proofs.Finding.{FindsOn, finds_all, finds_one, finds_other, get_there}
use Rattle.ldm_recorder.proofs.restoring.find_last.Goals as goal
use Rattle.ldm_recorder.proofs.restoring.find_last.Goals.{then-line-gt0+then-line-number, else-line-gt0, else-line-gt0-via-then-line-gt0+else-line-number, else-line-gt0-via-else-line-gt0}

pub loop-i-preserved : goal.loop-i-preserved
loop-i-preserved c =
    let lines = c.args.lines.now in
    let begun = c.args.lasts.now in
    let i = c.loop-i.i in
    let line = c.index-lines-i.result in
    let there : slice_get lines i ≡ Some line = get_there lines i line (omega arith) ∙ ap (λ (l : Line). Some l) (sym c.index-lines-i.is) in
    elim c.if-line-gt0.branch [
      | then-line-gt0+then-line-number w ↦
          subst (λ (l : List (Option Signature)). FindsOn lines begun c.args.number c.args.signature.0 (i + 1) l) (sym w.lasts-is)
          (finds_one lines begun c.args.number c.args.signature i c.loop-i.lasts line there c.loop-i.invariant (omega arith))
      | else-line-gt0 w ↦
          subst (λ (l : List (Option Signature)). FindsOn lines begun c.args.number c.args.signature.0 (i + 1) l) (sym w.lasts-is)
          (elim w.else-line-gt0.branch [
            | else-line-gt0-via-then-line-gt0+else-line-number u ↦
                finds_other lines begun c.args.number c.args.signature i c.loop-i.lasts line there c.loop-i.invariant (λ same. omega (arith, same))
            | else-line-gt0-via-else-line-gt0 u ↦
                finds_other lines begun c.args.number c.args.signature i c.loop-i.lasts line there c.loop-i.invariant (λ same. omega (arith, same))
          ])
    ]

pub returns : goal.returns
returns c = finds_all c.args.lines.now c.args.lasts.now c.args.number c.args.signature.0 c.loop-i.i c.loop-i.lasts (omega arith) c.loop-i.invariant
