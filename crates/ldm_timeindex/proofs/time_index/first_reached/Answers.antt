use Rattle.std.proofs.Common.{slice_get, sym, ap, ◌∙◌, arith}
use Rattle.std.specs.Option.{option_map}
use Rattle.std.proofs.lemmas.List.{length-map}
use Rattle.std.proofs.lemmas.List.Folds.{find_at}
use Rattle.std.proofs.lemmas.Option.{slice_get-map, slice_get_past}
use Rattle.ldm_timeindex.specs.Kept.{queued_of, reaches, all_queued}
use Rattle.ldm_timeindex.specs.Times.{number_and_slot}
use Rattle.ldm_timeindex.proofs.time_index.first_reached.Goals as goal

pub returns-then-index-len : goal.returns-then-index-len
returns-then-index-len c =
    let entries = c.args.ring.now.entries in
    let p = reaches c.args.bound.now in
    let at =
    find_at p (all_queued entries)
    ∙ ap (slice_get (all_queued entries)) (sym c.index_of-index.ensures)
    ∙ slice_get-map queued_of entries c.index_of-index.result
    ∙ ap (option_map queued_of) c.get-entry.ensures in
    sym (ap (option_map number_and_slot) at)

pub returns-else-index-len : goal.returns-else-index-len
returns-else-index-len c =
    let entries = c.args.ring.now.entries in
    let p = reaches c.args.bound.now in
    let past = c.if-index-len.false in
    let len = c.len.ensures.len in
    let at =
    find_at p (all_queued entries)
    ∙ ap (slice_get (all_queued entries)) (sym c.index_of-index.ensures)
    ∙ slice_get_past (all_queued entries) c.index_of-index.result (omega (arith, length-map entries queued_of)) in
    sym (ap (option_map number_and_slot) at)
