-- The numbers that an exercise draws: a generator whose state is a number of eight bytes.
use Rattle.std.specs.Prelude.{ℕ, ◌+◌, ◌*◌, ◌/◌, ◌%◌, ◌^◌}

-- the state after a draw
unfoldable pub after_draw : ℕ → ℕ
after_draw x = (x * 6364136223846793005 + 1442695040888963407) % 2 ^ 64

-- the number that is drawn in a state: the upper half of the state after it
unfoldable pub drawn : ℕ → ℕ
drawn x = after_draw x / 2 ^ 32
