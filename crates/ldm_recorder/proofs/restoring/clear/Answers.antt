use Rattle.std.proofs.Common.{◌≡◌, ◌∙◌, ◌+◌, ◌++◌, suc, ℕ, List, None, Option, ap, arith, drop, replicate, set}
use Rattle.ldm_types.specs.declared.signature.Signature.{Signature}
use Rattle.ldm_recorder.proofs.Finding.{cleared_more}
use Rattle.ldm_recorder.proofs.restoring.clear.Goals as goal

pub loop-last-preserved : goal.loop-last-preserved
loop-last-preserved c =
    let i = c.loop-last.last-index in
    let begun = c.args.lasts.now in
    let next : suc i ≡ i + 1 = omega arith in
    ap (λ (l : List (Option Signature)). set l i None) c.loop-last.invariant ∙ cleared_more i None begun (omega arith)
    ∙ ap (λ (n : ℕ). replicate n None ++ drop n begun) next
