-- Sets of feedtypes, each as a test of bit numbers. The bits are those below 32.
use Rattle.std.specs.Prelude.{ℕ, zero, suc, ◌+◌, ◌^◌, Bool, ◌==◌, ◌&&◌, ◌||◌, nat_lt, not, if◌then◌else◌}
use Rattle.std.specs.Int.{bit_at}

abbrev pub FeedSet : Type 0
FeedSet = ℕ → Bool

-- the places of the ones of a number
abbrev pub set_of : ℕ → FeedSet
set_of n bit = bit_at n bit == 1

abbrev pub union : FeedSet → FeedSet → FeedSet
union left right bit = left bit || right bit

abbrev pub meet : FeedSet → FeedSet → FeedSet
meet left right bit = left bit && right bit

-- what is in the left and not in the right
abbrev pub without : FeedSet → FeedSet → FeedSet
without left right bit = left bit && not (right bit)

-- each of the 32 bits changes sides; above them there is nothing to change
abbrev pub complement : FeedSet → FeedSet
complement set bit = if nat_lt bit 32 then not (set bit) else set bit

-- the number whose bits are the members below a bit: the sum of their powers of two
unfoldable pub number_below : ℕ → FeedSet → ℕ
number_below zero set = 0
number_below (suc bit) set = number_below bit set + (if set bit then 2 ^ bit else 0)

-- the number whose 32 bits are the members of a set
abbrev pub number_of : FeedSet → ℕ
number_of set = number_below 32 set
