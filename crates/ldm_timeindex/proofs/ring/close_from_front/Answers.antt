use Rattle.std.proofs.Common.{◌≡◌, ◌-◌, get_or, set, sym, ap, ◌∙◌, subst, arith}
use Rattle.ldm_timeindex.specs.Ring.{turned}
use Rattle.ldm_timeindex.proofs.Closing.{FrontMoved, front_closed, front_more}
use Rattle.ldm_timeindex.proofs.Turned.{get_or-turned, length-turned, turned-set}
use Rattle.ldm_timeindex.proofs.ring.close_from_front.Goals as goal

pub loop-hole-preserved : goal.loop-hole-preserved
loop-hole-preserved c =
    let first = c.args.first in
    let table = c.loop-hole.table in
    let hole = c.loop-hole.hole in
    let entry = c.index-table-place.result in
    let long = length-turned first c.args.table.now c.requires.first in
    let read =
    c.index-table-place.is
    ∙ ap (λ at. get_or table at entry) c.place.ensures.place
    ∙ sym (get_or-turned first table (hole - 1) entry (omega arith) (omega arith)) in
    let written = ap (λ at. turned first (set table at entry)) c.place-in-loop-hole.ensures.place ∙ turned-set first table hole entry (omega arith) (omega arith) in
    record {
      before = omega arith;
      moved =
          subst (λ now. FrontMoved (turned first c.args.table.now) now c.args.index (hole - 1)) (sym written)
          (front_more (turned first c.args.table.now) (turned first table) c.args.index hole entry entry (omega arith) c.loop-hole-test.true c.loop-hole.invariant.before read c.loop-hole.invariant.moved);
    }

pub returns : goal.returns
returns c =
    let long = length-turned c.args.first c.args.table.now c.requires.first in
    let ended : c.loop-hole.hole ≡ 0 = omega arith in
    front_closed (turned c.args.first c.args.table.now) (turned c.args.first c.loop-hole.table) c.args.index (omega arith)
    (subst (FrontMoved (turned c.args.first c.args.table.now) (turned c.args.first c.loop-hole.table) c.args.index) ended c.loop-hole.invariant.moved)
