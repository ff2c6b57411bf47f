-- How many answers there are of each kind.
use Rattle.std.specs.Prelude.{ℕ, Bool, true, false, List, length}
use Rattle.std.specs.List.{count_by, sum_by}
use Rattle.ldm_model.specs.declared.event.Reply.{Reply}
use Rattle.ldm_model.specs.declared.event.Reply.TheVariants as reply

abbrev pub is_admitted : Reply → Bool
is_admitted (reply.Admitted n time evicted) = true
is_admitted _ = false

abbrev pub is_duplicate : Reply → Bool
is_duplicate (reply.Duplicate n) = true
is_duplicate _ = false

abbrev pub is_locked : Reply → Bool
is_locked (reply.Locked held) = true
is_locked _ = false

abbrev pub is_product : Reply → Bool
is_product (reply.Product n time info) = true
is_product _ = false

abbrev pub is_gap : Reply → Bool
is_gap (reply.Gap count first last) = true
is_gap _ = false

abbrev pub is_end : Reply → Bool
is_end (reply.End at) = true
is_end _ = false

-- how many products were evicted for one that is admitted
abbrev pub evicted_by : Reply → ℕ
evicted_by (reply.Admitted n time evicted) = evicted
evicted_by _ = 0

-- how many losses a gap tells
abbrev pub lost_by : Reply → ℕ
lost_by (reply.Gap count first last) = count
lost_by _ = 0

-- How many replies there are, and how many of each kind; the sum of the evictions of the admitted, and that of the counts of the gaps.
pub record Counts : Type 0 where
  pub replies : ℕ
  pub admitted : ℕ
  pub evicted : ℕ
  pub duplicate : ℕ
  pub locked : ℕ
  pub product : ℕ
  pub gap : ℕ
  pub lost : ℕ
  pub end : ℕ

-- of these replies
abbrev pub counts_of : List Reply → Counts
counts_of replies = record {
  replies = length replies;
  admitted = count_by is_admitted replies;
  evicted = sum_by evicted_by replies;
  duplicate = count_by is_duplicate replies;
  locked = count_by is_locked replies;
  product = count_by is_product replies;
  gap = count_by is_gap replies;
  lost = sum_by lost_by replies;
  end = count_by is_end replies;
}
