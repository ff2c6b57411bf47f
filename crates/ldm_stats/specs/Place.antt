-- What products are counted by: the hour of their arrival, their feed and their origin.
use Rattle.std.specs.Prelude.{ℕ, List}
use Rattle.std.specs.declared.cmp.Ordering.{Ordering}
use Rattle.std.specs.Ordering.{nat_cmp, ordering_then}
use Rattle.std.specs.Cmp.Lexicographic.{slice_cmp}

pub record Place : Type 0 where
  -- hours since the beginning of 1970, UTC
  pub hour : ℕ
  -- a set of feedtypes, as a number whose bits are the members
  pub feed : ℕ
  pub origin : List ℕ

-- by hour, then by feed, then by the bytes of the origin
abbrev pub place_cmp : Place → Place → Ordering
place_cmp one other =
    ordering_then (nat_cmp one.hour other.hour)
    (ordering_then (nat_cmp one.feed other.feed) (slice_cmp nat_cmp one.origin other.origin))
