-- Whether there is room for a product.
use Rattle.std.specs.Prelude.{ℕ, Bool, ◌&&◌, nat_lt, is_some, Option}
use Rattle.ldm_types.specs.Arena.{fit}
use Rattle.ldm_model.specs.State.{State, occupied, slots_taken}

-- where an extent goes: the start of the shortest gap that is long enough, of the lowest such gap
abbrev pub fit_in : State → ℕ → Option ℕ
fit_in s need = fit need (occupied s) s.arena

-- a slot is free, and a gap is long enough
abbrev pub has_room : State → ℕ → Bool
has_room s need = nat_lt (slots_taken s) s.slots && is_some (fit_in s need)
