-- How full the queue is.
use Rattle.std.specs.Prelude.{ℕ, ◌+◌, List, [], ◌∷◌, length}
use Rattle.ldm_types.specs.Arena.{Region, gaps, longest}
use Rattle.ldm_model.specs.declared.event.Reply.{Reply}
use Rattle.ldm_model.specs.declared.event.Reply.TheVariants as reply
use Rattle.ldm_model.specs.State.{State, end_of, occupied, queued}
use Rattle.ldm_model.specs.Outcome.{Outcome, unchanged}
use Rattle.ldm_model.specs.Evict.{count_held}

-- the positions that these regions cover, where no two share one
abbrev pub extents : List Region → ℕ
extents [] = 0
extents (region ∷ regions) = region.extent + extents regions

-- how many products were admitted and are queued, how many regions are held, the bytes that products and reservations take,
-- and the extent of the longest gap
abbrev pub stat_reply : State → Reply
stat_reply s = reply.Stat (record {
  admitted = end_of s;
  queued = length (queued s);
  held = count_held s;
  used = extents (occupied s);
  largest_free = longest (gaps (occupied s) s.arena);
})

unfoldable pub stat : State → Outcome
stat s = unchanged s (stat_reply s)
