use Rattle.std.proofs.Common.{◌<◌, length, sym, subst, ◌∙◌}
use Rattle.ldm_sigindex.specs.Entries.{free_of, table_of}
use Rattle.ldm_sigindex.proofs.Occupied.{has_free, nothing_found}
use Rattle.ldm_sigindex.proofs.Read.{held_by, not_held_by, read_mark, read_slot, read_taken}
use Rattle.ldm_sigindex.proofs.Round.{way}
use Rattle.ldm_sigindex.proofs.Walked.{IsPassed, passed_next, way_shorter}
use Rattle.ldm_sigindex.proofs.entries.seek.Goals.{else-entry-mark-via-then-entry-mark+else-is_held, else-entry-mark-via-else-entry-mark}
use Rattle.ldm_sigindex.proofs.entries.seek.Goals as goal

pub returns-then-is_held-clause-found : goal.returns-then-is_held-clause-found
returns-then-is_held-clause-found c = record {
  held = held_by c.args.key c.args.entries.now c.args.slots.now c.args.signature.now.0 c.loop-at.at _ _ c.is_held.result c.requires c.loop-at.invariant.inside c.loop-at-test.true c.is_held.ensures c.if-is_held.true;
  mark = sym (read_mark c.args.entries.now c.loop-at.at _ c.loop-at.invariant.inside) ∙ c.if-entry-mark.true ∙ c.mark-mark.ensures;
}

pub loop-at-smaller : goal.loop-at-smaller
loop-at-smaller c =
    let entries = c.args.entries.now in
    subst (λ at. way (length entries) at (free_of entries) < way (length entries) c.loop-at.at (free_of entries)) (sym c.after-at.ensures)
    (way_shorter entries c.loop-at.at c.loop-at.invariant.inside (has_free c.args.key entries (table_of c.args.slots.now) c.requires) (read_taken entries c.loop-at.at _ c.loop-at.invariant.inside c.loop-at-test.true))

pub loop-at-preserved : goal.loop-at-preserved
loop-at-preserved c =
    subst (IsPassed c.args.key c.args.entries.now (table_of c.args.slots.now) c.args.signature.now.0) (sym c.after-at.ensures)
    (passed_next c.args.key c.args.entries.now (table_of c.args.slots.now) c.args.signature.now.0 c.loop-at.at
    (λ is. elim c.else-entry-mark.branch [
      | else-entry-mark-via-then-entry-mark+else-is_held w ↦
          not_held_by c.args.key c.args.entries.now c.args.slots.now c.args.signature.now.0 c.loop-at.at _ _ w.is_held.result c.requires c.loop-at.invariant.inside c.loop-at-test.true w.is_held.ensures
          w.if-is_held.false is.held
      | else-entry-mark-via-else-entry-mark w ↦
          w.if-entry-mark.false (read_mark c.args.entries.now c.loop-at.at _ c.loop-at.invariant.inside ∙ is.mark ∙ sym c.mark-mark.ensures)
    ])
    c.loop-at.invariant)

pub returns-clause-absent : goal.returns-clause-absent
returns-clause-absent c _ =
    nothing_found c.args.key c.args.entries.now (table_of c.args.slots.now) c.requires c.args.signature.now.0 c.loop-at.at c.loop-at.invariant.inside
    (sym (read_slot c.args.entries.now c.loop-at.at _ c.loop-at.invariant.inside) ∙ c.loop-at-test.false) c.loop-at.invariant.other
