-- The fields of a line, one blank apart, read one after another.
--
-- A line that is being read is what is left of it: None behind the last field, else the next field and what follows.
-- Where it cannot be read, that is told by how many bytes there are from that place to the end of the line: from the first
-- byte of a field, from the end of the line for a field that is missing, and from the blank in front of one too many.
use Rattle.std.specs.Prelude.{ℕ, ◌+◌, ◌==◌, List, [], ◌∷◌, length, Option, Some, None, Result, Ok, Err, if◌then◌else◌}

infixl 10 ◌>>=◌
abbrev pub ◌>>=◌ : {A B : Type 0} → Result A ℕ → (A → Result B ℕ) → Result B ℕ
(Ok x) >>= f = f x
(Err left) >>= f = Err left

abbrev pub Left : Type 0
Left = Option (List ℕ)

-- the first field, and what is left behind the blank that ends it
abbrev pub first_field : List ℕ → List ℕ
first_field [] = []
first_field (byte ∷ bytes) = if byte == 32 then [] else byte ∷ first_field bytes

abbrev pub behind_field : List ℕ → Left
behind_field [] = None
behind_field (byte ∷ bytes) = if byte == 32 then Some bytes else behind_field bytes

-- what a field spells, and what is left behind it; or how much is left from the field on
abbrev pub or_bad : {A : Type 0} → List ℕ → Option A → Result (A × Left) ℕ
or_bad rest None = Err (length rest)
or_bad rest (Some x) = Ok (x, behind_field rest)

abbrev pub field : {A : Type 0} → (List ℕ → Option A) → Left → Result (A × Left) ℕ
field read None = Err 0
field read (Some rest) = or_bad rest (read (first_field rest))

-- nothing may stand behind the last field
abbrev pub no_more : Left → Result (Unit {0}) ℕ
no_more None = Ok tt
no_more (Some rest) = Err (length rest + 1)
