-- What contracts see of a `Total` of the code.
use Rattle.std.specs.Prelude.{◌≤◌, ◌*◌, ◌^◌}
use Rattle.ldm_stats.specs.Totals.{Total}
use Rattle.ldm_stats.specs.declared.total.Total.TheInside.{Inside}

abbrev pub total_view : Inside → Total
total_view total = record { count = total.count; bytes = total.bytes; latency = total.latency }

-- sizes have 32 bits
abbrev pub IsSumOfSizes : Inside → Type 0
IsSumOfSizes total = total.bytes ≤ total.count * 2 ^ 32
