use Rattle.std.proofs.Common.{◌∙◌, [], ◌∷◌, ◌++◌, ap, arith}
use Rattle.ldm_recorder.specs.declared.line.Line.{Line}
use Rattle.ldm_node_command.proofs.LineLemmas.{one_line}
use Rattle.ldm_node_command.proofs.lines.lines_of.Goals as goal

pub loop-place-preserved : goal.loop-place-preserved
loop-place-preserved c = record {
  lines =
      one_line c.args.workers c.as_slice-requests.result.now c.loop-place.place c.index-requests-place.result c.loop-place-test.true c.index-requests-place.is
      c.loop-place.lines.items c.push_reserved.new.self.items c.loop-place.invariant.lines
      (c.push_reserved.ensures.items ∙ ap (λ (line : Line). c.loop-place.lines.items ++ line ∷ []) c.line_of.ensures);
  many = omega (arith, c.push_reserved.ensures.len, c.loop-place.invariant.many);
  lasts = omega (arith, c.push_reserved-in-loop-place.ensures.len, c.loop-place.invariant.lasts);
  room = omega (arith, c.push_reserved.ensures.capacity, c.loop-place.invariant.room);
  places = omega (arith, c.push_reserved-in-loop-place.ensures.capacity, c.loop-place.invariant.places);
}
