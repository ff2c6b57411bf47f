-- Products of the worked examples.
use Rattle.std.specs.Prelude.{ℕ, [], codes, replicate}
use Rattle.ldm_stats.specs.Totals.{Product}

-- of feed 2 and origin `h`: inserted at a time, with an arrival and a size
abbrev pub of_h : ℕ → ℕ → ℕ → Product
of_h time arrival size = record {
  time = time;
  info = record { arrival = arrival; signature = replicate 16 0; origin = codes "h"; feed = 2; seqno = 1; ident = []; size = size };
}

-- two that arrived at the beginning of 1 March 2024
abbrev pub first : Product
first = of_h 1709251201000000 1709251200000000 4

abbrev pub second : Product
second = of_h 1709251203000000 1709251200000000 12

-- and one of the next hour
abbrev pub later : Product
later = of_h 1709254800000000 1709254800000000 4

-- of feed 1 and no origin, inserted before it arrived, in the first hour of 1970
abbrev pub early : Product
early = record {
  time = 0;
  info = record { arrival = 3599999999; signature = replicate 16 0; origin = []; feed = 1; seqno = 1; ident = []; size = 7 };
}
