-- Which bytes of a body an action writes.
use Rattle.std.specs.Prelude.{ℕ, Bool, ◌==◌, ◌||◌, ◌&&◌, nat_le, if◌then◌else◌, List, filter}

-- a newline (10), or what prints in ASCII (32 to 126)
abbrev pub is_text : ℕ → Bool
is_text byte = (byte == 10) || (nat_le 32 byte && nat_le byte 126)

-- the bytes that are written, by whether the others are dropped
abbrev pub kept : Bool → List ℕ → List ℕ
kept strip bytes = if strip then filter is_text bytes else bytes
