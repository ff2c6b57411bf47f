use Rattle.std.proofs.Common.{◌≡◌, drop}
use Rattle.std.specs.List.{list_any}
use Rattle.ldm_book.specs.Spans.{fits_behind}
use Rattle.ldm_book.proofs.spans.has_gap.Given as goal

abbrev pub invariant-loop-span : goal.invariant-loop-span
invariant-loop-span l = list_any (fits_behind l.need l.arena l.spans) (drop l.span-index l.spans) ≡ list_any (fits_behind l.need l.arena l.spans) l.spans
