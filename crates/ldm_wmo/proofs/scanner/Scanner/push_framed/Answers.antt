use Rattle.std.proofs.Common.{◌∙◌, arith, sym}
use Rattle.ldm_wmo.proofs.Framed.{front_taken}
use Rattle.ldm_wmo.proofs.scanner.Scanner.push_framed.Goals as goal

pub returns-else-not-has_item-clause-after : goal.returns-else-not-has_item-clause-after
returns-else-not-has_item-clause-after c =
    (front_taken c.args.self.now c.loop-at.self c.args.piece.now c.loop-at.at c.loop-at.invariant.front (λ short. sym c.has_item.ensures ∙ c.if-not-has_item.false)).after_is

pub returns-else-not-has_item-clause-taken : goal.returns-else-not-has_item-clause-taken
returns-else-not-has_item-clause-taken c =
    (front_taken c.args.self.now c.loop-at.self c.args.piece.now c.loop-at.at c.loop-at.invariant.front (λ short. sym c.has_item.ensures ∙ c.if-not-has_item.false)).count_is

pub returns-after-loop-at-clause-after : goal.returns-after-loop-at-clause-after
returns-after-loop-at-clause-after c =
    (front_taken c.args.self.now c.loop-at.self c.args.piece.now c.loop-at.at c.loop-at.invariant.front (λ short. absurd (omega (arith, c.loop-at-test.false)))).after_is

pub returns-after-loop-at-clause-taken : goal.returns-after-loop-at-clause-taken
returns-after-loop-at-clause-taken c =
    (front_taken c.args.self.now c.loop-at.self c.args.piece.now c.loop-at.at c.loop-at.invariant.front (λ short. absurd (omega (arith, c.loop-at-test.false)))).count_is
