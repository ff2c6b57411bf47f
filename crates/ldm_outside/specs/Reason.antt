-- Texts that a log line can have.
use Rattle.std.specs.Prelude.{◌≡◌, ◌≤◌, ◌||◌, ◌==◌, ℕ, nat_lt, List, length, Bool, false}
use Rattle.std.specs.List.{list_any}
use Rattle.ldm_outside.specs.declared.reason.TheConstants.{LONGEST_REASON}

-- a byte that ends a line, or that moves on a terminal
abbrev pub is_control : ℕ → Bool
is_control byte = nat_lt byte 32 || (byte == 127)

-- A text that can stand in a log line.
abbrev pub IsReason : List ℕ → Type 0
IsReason text = (length text ≤ LONGEST_REASON) × (list_any is_control text ≡ false)
