-- Hosts and ports: `HOST` or `HOST:PORT`.
use Rattle.std.specs.Prelude.{ℕ, ◌+◌, ◌-◌, ◌*◌, ◌^◌, Bool, false, ◌==◌, ◌&&◌, not, nat_le, nat_lt, if◌then◌else◌, List, [], ◌∷◌, length, Option, Some, None}
use Rattle.std.specs.Char.{is_ascii_digit}
use Rattle.std.specs.List.{list_all}
use Rattle.ldm_conf.specs.declared.limits.TheConstants.{DEFAULT_PORT, LONGEST_HOST_NAME}

-- a host, and the port to ask it at
pub record Address : Type 0 where
  pub host : List ℕ
  pub port : ℕ

-- a byte in front of a text that is cut at its last colon, or is to be cut at that byte (58 is a colon)
abbrev pub cut_behind : ℕ → List ℕ → Option (List ℕ × List ℕ) → Option (List ℕ × List ℕ)
cut_behind byte bytes (Some halves) = Some (byte ∷ halves.0, halves.1)
cut_behind byte bytes None = if byte == 58 then Some ([], bytes) else None

-- what stands before the last colon of a text, and what stands behind it, if there is one
abbrev pub at_last_colon : List ℕ → Option (List ℕ × List ℕ)
at_last_colon [] = None
at_last_colon (byte ∷ bytes) = cut_behind byte bytes (at_last_colon bytes)

-- it begins with the digit 0 (48)
abbrev pub begins_with_zero : List ℕ → Bool
begins_with_zero [] = false
begins_with_zero (byte ∷ bytes) = byte == 48

-- the number that digits spell behind others that spell n
abbrev pub digits_from : ℕ → List ℕ → ℕ
digits_from n [] = n
digits_from n (byte ∷ bytes) = digits_from (10 * n + (byte - 48)) bytes

-- whether a text spells a port: decimal digits without a leading zero, a number from 1 to 65,535
abbrev pub is_port : List ℕ → Bool
is_port text =
    nat_le 1 (length text) && not (begins_with_zero text) && list_all is_ascii_digit text && nat_lt (digits_from 0 text) (2 ^ 16)

-- the port that a text spells
abbrev pub port_of : List ℕ → Option ℕ
port_of text = if is_port text then Some (digits_from 0 text) else None

-- a host has at least one byte, and at most so many
abbrev pub is_host : List ℕ → Bool
is_host host = nat_le 1 (length host) && nat_le (length host) LONGEST_HOST_NAME

-- a host with a port, if it is a host
abbrev pub at_port : List ℕ → ℕ → Option Address
at_port host port = if is_host host then Some (record { host = host; port = port }) else None

abbrev pub with_port : List ℕ → Option ℕ → Option Address
with_port host None = None
with_port host (Some port) = at_port host port

-- by the two halves of a text that has a colon
abbrev pub by_halves : List ℕ → Option (List ℕ × List ℕ) → Option Address
by_halves text None = at_port text DEFAULT_PORT
by_halves text (Some halves) = with_port halves.0 (port_of halves.1)

-- the address that a word means
unfoldable pub address_of : List ℕ → Option Address
address_of text = by_halves text (at_last_colon text)
