-- Bytes that begin as metadata do, for worked examples.
use Rattle.std.specs.Prelude.{ℕ, List, [], ◌∷◌, ◌++◌, replicate}

-- a small number
abbrev pub small : ℕ → List ℕ
small n = 0 ∷ 0 ∷ 0 ∷ n ∷ []

-- 24 bytes: a second and no microseconds, and a signature
abbrev pub to_origin : List ℕ
to_origin = small 1 ++ small 0 ++ replicate 16 7

-- 36 bytes: no origin, feedtypes and a sequence number besides
abbrev pub to_ident : List ℕ
to_ident = to_origin ++ small 0 ++ small 4 ++ small 2
