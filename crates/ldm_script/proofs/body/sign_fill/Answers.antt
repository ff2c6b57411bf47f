use Rattle.std.proofs.Common.{◌≡◌, ℕ, ◌+◌, ◌-◌, List, replicate, subst, ap, ◌∙◌, arith}
use Rattle.md5.specs.Md5.{Holds}
use Rattle.ldm_script.proofs.Bodies.{more_fill}
use Rattle.ldm_script.proofs.body.sign_fill.Goals as goal

pub loop-left-preserved : goal.loop-left-preserved
loop-left-preserved c =
    let done = c.args.count - c.loop-left.left in
    let part = c.min-part.result in
    let count : done + part ≡ c.args.count - (c.loop-left.left - part) = omega arith in
    let more = more_fill done part c.args.byte (omega arith) ∙ ap (λ (n : ℕ). replicate n c.args.byte) count in
    let holds = c.update.ensures (replicate done c.args.byte) c.loop-left.invariant.so_far in
    record { within = omega arith; so_far = subst (λ (l : List ℕ). Holds c.update.new.self l) more holds }
