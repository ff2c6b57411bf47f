-- What is kept of the answers so far.
use Rattle.std.specs.Prelude.{◌≤◌, ◌+◌, ◌*◌, ◌^◌, cond}
use Rattle.ldm_model.specs.declared.event.Reply.{Reply}
use Rattle.ldm_exercise.specs.Counts.{Counts, is_admitted, is_duplicate, is_locked, is_product, is_gap, is_end, evicted_by, lost_by}

-- the counts with one reply more
abbrev pub and_counted : Counts → Reply → Counts
and_counted t r = record {
  replies = t.replies + 1;
  admitted = t.admitted + cond (is_admitted r) 1 0;
  evicted = t.evicted + evicted_by r;
  duplicate = t.duplicate + cond (is_duplicate r) 1 0;
  locked = t.locked + cond (is_locked r) 1 0;
  product = t.product + cond (is_product r) 1 0;
  gap = t.gap + cond (is_gap r) 1 0;
  lost = t.lost + lost_by r;
  end = t.end + cond (is_end r) 1 0;
}

-- each count is at most that of all replies, and each sum one of so many numbers of eight bytes
pub record IsBounded (t : Counts) : Type 0 where
  pub admitted : t.admitted ≤ t.replies
  pub evicted : t.evicted ≤ t.replies * 2 ^ 64
  pub duplicate : t.duplicate ≤ t.replies
  pub locked : t.locked ≤ t.replies
  pub product : t.product ≤ t.replies
  pub gap : t.gap ≤ t.replies
  pub lost : t.lost ≤ t.replies * 2 ^ 64
  pub end : t.end ≤ t.replies
