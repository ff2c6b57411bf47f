-- Signatures as hexadecimal text.
use Rattle.std.specs.Prelude.{ℕ, List, Option}
use Rattle.std.specs.Result.{result_ok}
use Rattle.hex.specs.Hex.{decode_sized}

-- the 16 bytes that 32 hexadecimal digits of either case spell, each by two digits, the high one first;
-- no other text spells a signature
abbrev pub hex_signature : List ℕ → Option (List ℕ)
hex_signature text = result_ok (decode_sized text 16)
