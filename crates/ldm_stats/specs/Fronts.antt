-- First bytes as a number.
use Rattle.std.specs.Prelude.{◌≡◌, ℕ, zero, suc, ◌+◌, ◌*◌, ◌<◌, ◌≤◌, List, [], ◌∷◌, length, get_or}

-- what so many first bytes spell behind a number, the greatest digit first
abbrev pub front : ℕ → ℕ → List ℕ → ℕ
front zero before bytes = before
front (suc n) before [] = before
front (suc n) before (byte ∷ bytes) = front n (before * 256 + byte) bytes

abbrev pub AreBytes : List ℕ → Type 0
AreBytes xs = (k : ℕ) → get_or xs k 0 < 256

-- a number other than 0 is what the first eight of some bytes spell
abbrev pub TellsFront : ℕ → List ℕ → Type 0
TellsFront number bytes = 0 < number → (8 ≤ length bytes) × (number ≡ front 8 0 bytes) × AreBytes bytes
