-- Which slot has which signature.
use Rattle.std.specs.Prelude.{◌≡◌, ℕ, Bool, false, List, bytes_eq, slice_get, position, Option, Some, None}

-- the bytes of each slot's signature, if it has one
abbrev pub Table : Type 0
Table = List (Option (List ℕ))

-- whether a slot has a signature
abbrev pub has : List ℕ → Option (List ℕ) → Bool
has signature None = false
has signature (Some held) = bytes_eq held signature

-- the first slot that has a signature
abbrev pub slot_of : Table → List ℕ → Option ℕ
slot_of table signature = position (has signature) table

-- no two slots have the same signature
abbrev pub IsOneToOne : Table → Type 0
IsOneToOne table =
    (a b : ℕ) (signature : List ℕ) → slice_get table a ≡ Some (Some signature) → slice_get table b ≡ Some (Some signature) → a ≡ b
