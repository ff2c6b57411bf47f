-- Writing a field at a place.
use Rattle.std.specs.Prelude.{ℕ, ◌+◌, List, ◌++◌, length, take, drop}

-- some bytes with a field in place of as many of them, from a place on
abbrev pub put_at : ℕ → List ℕ → List ℕ → List ℕ
put_at at field bytes = take at bytes ++ field ++ drop (at + length field) bytes
