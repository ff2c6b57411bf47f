use Rattle.std.proofs.Common.{sym, ap, ◌∙◌, arith}
use Rattle.std.proofs.lemmas.List.{get_or-map, length-map}
use Rattle.std.proofs.lemmas.Option.{get_or_from_slice_get}
use Rattle.ldm_timeindex.specs.Kept.{queued_of, reaches, all_queued}
use Rattle.ldm_timeindex.proofs.Search.{between_above, between_below, between_none}
use Rattle.ldm_timeindex.proofs.time_index.index_of.Goals as goal

pub loop-low-preserved-then-is_reached : goal.loop-low-preserved-then-is_reached
loop-low-preserved-then-is_reached c =
    let entries = c.args.ring.now.entries in
    let middle = c.place_to_look-middle.result in
    let d = queued_of c.get.result in
    let few = length-map entries queued_of in
    let read =
    get_or-map queued_of entries middle c.get.result d (omega (arith, c.loop-low.invariant.inside))
    ∙ ap queued_of (get_or_from_slice_get entries middle c.get.result c.get.result c.get.ensures) in
    between_below c.args.bound.now (all_queued entries) c.loop-low.low c.loop-low.high middle d c.requires (omega arith) (omega arith)
    (ap (reaches c.args.bound.now) read ∙ sym c.if-is_reached.ensures) c.loop-low.invariant

pub loop-low-preserved : goal.loop-low-preserved
loop-low-preserved c =
    let entries = c.args.ring.now.entries in
    let middle = c.place_to_look-middle.result in
    let d = queued_of c.get.result in
    let few = length-map entries queued_of in
    let read =
    get_or-map queued_of entries middle c.get.result d (omega (arith, c.loop-low.invariant.inside))
    ∙ ap queued_of (get_or_from_slice_get entries middle c.get.result c.get.result c.get.ensures) in
    between_above c.args.bound.now (all_queued entries) c.loop-low.low c.loop-low.high middle d c.requires (omega arith) (omega arith)
    (ap (reaches c.args.bound.now) read ∙ sym c.if-is_reached.ensures) c.loop-low.invariant

pub returns : goal.returns
returns c = between_none c.args.bound.now (all_queued c.args.ring.now.entries) c.loop-low.low c.loop-low.high (record { n = 0; time = 0; slot = 0 }) c.loop-low-test.false c.loop-low.invariant
