use Rattle.std.proofs.Common.{◌≡◌, ◌∙◌, ℕ, arith, refl, subst, sym}
use Rattle.std.specs.Prelude.{replicate, slice_index}
use Rattle.std.proofs.lemmas.List.{length-set}
use Rattle.ldm_recorder.specs.declared.line.Line.{Line}
use Rattle.ldm_recorder.specs.declared.line.TheConstants.{MOST_LINES}
use Rattle.ldm_recorder.specs.Lines.{IsLastOf}
use Rattle.ldm_recorder.proofs.Finding.{get_none}
use Rattle.ldm_recorder.proofs.Knowing.{LastsSome, lasts_more, lasts_none, lasts_out, lasts_room, one_below}
use Rattle.ldm_recorder.proofs.recorder.Recorder.lasts_below.Goals as goal

pub loop-i-init : goal.loop-i-init
loop-i-init c = record {
  many = refl;
  known = λ seen knows. lasts_none (λ (line : Line) (last : ℕ). IsLastOf c.args.self.now.base c.args.at seen line last) c.args.self.now.lines.items (replicate MOST_LINES 0);
}

pub returns-in_default : goal.returns-in_default
returns-in_default c = λ seen knows.
    let r = c.args.self.now in
    lasts_out r.base c.args.at seen r.lines.items c.loop-i.i c.loop-i.lasts c.loop-i.invariant.many (get_none r.lines.items c.loop-i.i (sym c.in_default.ensures))
    (c.loop-i.invariant.known seen knows)

pub loop-i-preserved : goal.loop-i-preserved
loop-i-preserved c =
    let r = c.args.self.now in
    let i = c.loop-i.i in
    let many = c.loop-i.invariant.many in
    record {
      many = length-set c.loop-i.lasts i c.last_within.result ∙ many;
      known = λ seen knows.
          lasts_more (λ (line : Line) (last : ℕ). IsLastOf r.base c.args.at seen line last) r.lines.items i c.loop-i.lasts c.in-Some.line c.last_within.result (sym c.in-Some.ensures)
          (omega (arith, many))
          (one_below r.base c.args.at knows.at seen c.in-Some.line (slice_index r.lasts i) c.last_within.result
          (knows.lasts.each i c.in-Some.line (omega arith) (sym c.in-Some.ensures)) c.saturating_add-end.result (omega (arith, c.saturating_add-end.ensures)) c.last_within.ensures)
          (c.loop-i.invariant.known seen knows);
    }

pub returns : goal.returns
returns c = λ seen knows.
    let r = c.args.self.now in
    let end : c.loop-i.i ≡ MOST_LINES = omega arith in
    lasts_room r.base c.args.at seen r.lines.items c.loop-i.lasts c.loop-i.invariant.many
    (subst (λ (n : ℕ). LastsSome (λ (line : Line) (last : ℕ). IsLastOf r.base c.args.at seen line last) r.lines.items n c.loop-i.lasts) end (c.loop-i.invariant.known seen knows))
