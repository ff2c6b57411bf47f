-- What calls say that write where there is room.
use Rattle.std.specs.Prelude.{◌≡◌, ℕ, ◌+◌, ◌≤◌, List, ◌++◌, length}
use Rattle.std.specs.Global.{Vec}
use Rattle.std.specs.Vec.{vec_len, vec_capacity}

-- these bytes fit in without more memory
abbrev pub HasRoom : Vec ℕ → List ℕ → Type 0
HasRoom out bytes = vec_len out + length bytes ≤ vec_capacity out

-- these bytes were appended
pub record Appends (old new : Vec ℕ) (bytes : List ℕ) : Type 0 where
  pub items : new.items ≡ old.items ++ bytes
  pub len : vec_len new ≡ vec_len old + length bytes
  pub capacity : vec_capacity old ≤ vec_capacity new
