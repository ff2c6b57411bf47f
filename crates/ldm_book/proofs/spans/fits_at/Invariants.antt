use Rattle.std.proofs.Common.{◌≡◌, drop}
use Rattle.std.specs.List.{list_all}
use Rattle.ldm_book.specs.Spans.{is_beside}
use Rattle.ldm_book.proofs.spans.fits_at.Given as goal

abbrev pub invariant-loop-span : goal.invariant-loop-span
invariant-loop-span l = list_all (is_beside l.at l.need) (drop l.span-index l.spans) ≡ list_all (is_beside l.at l.need) l.spans
