-- The figures of a queue, in their order.
use Rattle.std.specs.Prelude.{ℕ}
use Rattle.ldm_model.specs.declared.stat.Stat.{Stat}

abbrev pub figures : (admitted queued held used largest_free : ℕ) → Stat
figures admitted queued held used largest_free =
    record { admitted = admitted; queued = queued; held = held; used = used; largest_free = largest_free }
