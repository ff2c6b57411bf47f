use Rattle.std.proofs.Common.{◌≡◌, ◌∙◌, ℕ, Some, ap, arith, refl, subst, sym}
use Rattle.std.specs.Prelude.{replicate, slice_get}
use Rattle.std.proofs.lemmas.List.{length-set}
use Rattle.ldm_recorder.specs.declared.line.Line.{Line}
use Rattle.ldm_recorder.specs.declared.line.TheConstants.{MOST_LINES}
use Rattle.ldm_recorder.proofs.Finding.{get_there}
use Rattle.ldm_recorder.proofs.Knowing.{BeginSome, begun_some, lasts_more, lasts_none, lasts_out, lasts_room}
use Rattle.ldm_recorder.proofs.known.lasts_of.Goals as goal

pub loop-i-init : goal.loop-i-init
loop-i-init c = record { many = refl; begin = lasts_none (λ (line : Line) (last : ℕ). last ≡ line.last) c.args.lines.now (replicate MOST_LINES 0) }

pub returns-in_default : goal.returns-in_default
returns-in_default c = λ base seen.
    lasts_out base 0 seen c.args.lines.now c.loop-i.i c.loop-i.lasts c.loop-i.invariant.many c.in_default.ensures.lookup.3
    (begun_some base seen c.args.lines.now c.loop-i.i c.loop-i.lasts c.loop-i.invariant.begin)

pub loop-i-preserved : goal.loop-i-preserved
loop-i-preserved c =
    let lines = c.args.lines.now in
    let at = c.in-Some.ensures.lookup in
    let there : slice_get lines c.loop-i.i ≡ Some c.in-Some.line.now =
    get_there lines c.loop-i.i c.in-Some.line.now at.3.0 ∙ ap (λ (l : Line). Some l) (sym at.1) in
    record {
      many = length-set c.loop-i.lasts c.loop-i.i c.in-Some.line.now.last ∙ c.loop-i.invariant.many;
      begin =
          lasts_more (λ (line : Line) (last : ℕ). last ≡ line.last) lines c.loop-i.i c.loop-i.lasts c.in-Some.line.now c.in-Some.line.now.last there
          (omega (arith, c.loop-i.invariant.many)) refl c.loop-i.invariant.begin;
    }

pub returns : goal.returns
returns c = λ base seen.
    let end : c.loop-i.i ≡ MOST_LINES = omega arith in
    lasts_room base 0 seen c.args.lines.now c.loop-i.lasts c.loop-i.invariant.many
    (begun_some base seen c.args.lines.now MOST_LINES c.loop-i.lasts (subst (λ (n : ℕ). BeginSome c.args.lines.now n c.loop-i.lasts) end c.loop-i.invariant.begin))
