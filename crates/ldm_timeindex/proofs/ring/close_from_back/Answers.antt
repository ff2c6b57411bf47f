use Rattle.std.proofs.Common.{◌≡◌, ◌+◌, ◌-◌, get_or, set, sym, ap, ◌∙◌, subst, arith}
use Rattle.ldm_timeindex.specs.Ring.{turned}
use Rattle.ldm_timeindex.proofs.Closing.{BackMoved, back_closed, back_more}
use Rattle.ldm_timeindex.proofs.Turned.{get_or-turned, length-turned, turned-set}
use Rattle.ldm_timeindex.proofs.ring.close_from_back.Goals as goal

pub loop-hole-preserved : goal.loop-hole-preserved
loop-hole-preserved c =
    let first = c.args.first in
    let table = c.loop-hole.table in
    let hole = c.loop-hole.hole in
    let entry = c.index-table-place.result in
    let long = length-turned first c.args.table.now c.requires.first in
    let read =
    c.index-table-place.is
    ∙ ap (λ at. get_or table at entry) c.place.ensures.place
    ∙ sym (get_or-turned first table (hole + 1) entry (omega arith) (omega arith)) in
    let written = ap (λ at. turned first (set table at entry)) c.place-in-loop-hole.ensures.place ∙ turned-set first table hole entry (omega arith) (omega arith) in
    subst (λ now. BackMoved (turned first c.args.table.now) now c.args.index (hole + 1)) (sym written)
    (back_more (turned first c.args.table.now) (turned first table) c.args.index hole entry entry (omega arith) (omega arith) read c.loop-hole.invariant)

pub returns : goal.returns
returns c =
    let long = length-turned c.args.first c.args.table.now c.requires.first in
    let ended : c.loop-hole.hole ≡ c.args.count - 1 = omega arith in
    back_closed (turned c.args.first c.args.table.now) (turned c.args.first c.loop-hole.table) c.args.count c.args.index (omega arith) c.requires.index
    (subst (BackMoved (turned c.args.first c.args.table.now) (turned c.args.first c.loop-hole.table) c.args.index) ended c.loop-hole.invariant)
