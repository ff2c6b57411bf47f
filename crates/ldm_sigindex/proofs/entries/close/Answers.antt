use Rattle.std.proofs.Common.{length, set, ap, sym, subst, ◌∙◌}
use Rattle.ldm_sigindex.specs.Entries.{home_of}
use Rattle.ldm_sigindex.proofs.Closing.{IsClosing, closing_end, closing_first, turn_moved, turn_past}
use Rattle.ldm_sigindex.proofs.Read.{read, read_mark, read_slot, read_taken}
use Rattle.ldm_sigindex.proofs.entries.close.Goals.{then-is_on_way, else-is_on_way}
use Rattle.ldm_sigindex.proofs.entries.close.Goals as goal

pub loop-entries-init : goal.loop-entries-init
loop-entries-init c =
    subst (IsClosing c.args.entries.now c.args.entries.now c.args.place c.args.place) (sym c.after-at.ensures)
    (closing_first c.args.entries.now c.args.place c.requires.taken c.requires.free)

pub loop-entries-preserved : goal.loop-entries-preserved
loop-entries-preserved c =
    let inside = c.loop-entries.invariant.at_inside in
    let taken = read_taken c.loop-entries.entries c.loop-entries.at _ inside c.loop-entries-test.true in
    let is_home = c.home.ensures.home ∙ ap (home_of (length c.loop-entries.entries)) (read_mark c.loop-entries.entries c.loop-entries.at _ inside) in
    elim c.if-is_on_way.branch [
      | then-is_on_way w ↦
          turn_moved c.args.entries.now c.loop-entries.entries c.if-is_on_way.entries c.args.place c.loop-entries.hole c.if-is_on_way.hole c.loop-entries.at c.after-at-in-loop-entries.result c.home.result
          c.requires.free c.loop-entries.invariant taken is_home (w.entries-is ∙ ap (set c.loop-entries.entries c.loop-entries.hole) (read c.loop-entries.entries c.loop-entries.at _ inside)) w.hole-is c.after-at-in-loop-entries.ensures
          (c.is_on_way.ensures.on w.if-is_on_way.true)
      | else-is_on_way w ↦
          turn_past c.args.entries.now c.loop-entries.entries c.if-is_on_way.entries c.args.place c.loop-entries.hole c.if-is_on_way.hole c.loop-entries.at c.after-at-in-loop-entries.result c.home.result
          c.requires.free c.loop-entries.invariant taken is_home w.entries-is w.hole-is c.after-at-in-loop-entries.ensures
          (c.is_on_way.ensures.off w.if-is_on_way.false)
    ]

pub returns : goal.returns
returns c key table kept =
    closing_end key c.args.entries.now c.loop-entries.entries c.args.place c.loop-entries.hole c.loop-entries.at table c.loop-entries.invariant
    (sym (read_slot c.loop-entries.entries c.loop-entries.at _ c.loop-entries.invariant.at_inside) ∙ c.loop-entries-test.false) kept
