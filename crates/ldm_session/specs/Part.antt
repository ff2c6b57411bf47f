-- All of a list, or a front of it.
use Rattle.std.specs.Prelude.{◌≡◌, Bool, true, false, List, ◌++◌}

-- a list is all of another, or a front of it
abbrev pub IsPart : {A : Type 0} → Bool → List A → List A → Type 0
IsPart true part all = part ≡ all
IsPart {A} false part all = (rest : List A) × (part ++ rest ≡ all)
