use Rattle.std.proofs.Common.{◌≡◌, ◌∙◌, ℕ, arith, subst}
use Rattle.ldm_recorder.specs.declared.line.TheConstants.{MOST_LINES}
use Rattle.ldm_recorder.proofs.Noting.{NoneYet, both_ways, found_here, none_at_all, none_begins, not_here}
use Rattle.ldm_recorder.proofs.note.last_in.Goals as goal

pub loop-i-init : goal.loop-i-init
loop-i-init c = none_begins c.args.key.now c.args.note.now

pub returns-then-has_key : goal.returns-then-has_key
returns-then-has_key c =
    c.number_behind.ensures
    ∙ found_here c.args.key.now c.args.note.now c.loop-i.i (omega arith) c.loop-i.invariant c.split_at.result.1.now c.split_at.ensures.back (c.has_key.ensures.0 c.if-has_key.true)

pub loop-i-preserved : goal.loop-i-preserved
loop-i-preserved c =
    not_here c.args.key.now c.args.note.now c.loop-i.i (omega arith) c.loop-i.invariant c.split_at.result.1.now c.split_at.ensures.back
    (λ is. both_ways c.has_key.result (c.has_key.ensures.1 is) c.if-has_key.false)

pub returns : goal.returns
returns c =
    let end : c.loop-i.i ≡ MOST_LINES = omega arith in
    none_at_all c.args.key.now c.args.note.now (subst (λ (n : ℕ). NoneYet c.args.key.now c.args.note.now n) end c.loop-i.invariant)
