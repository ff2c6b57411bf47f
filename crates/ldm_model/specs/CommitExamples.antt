-- Sample states for the worked examples.
use Rattle.std.specs.Prelude.{[], ◌∷◌, replicate}
use Rattle.ldm_model.specs.State.{State, Reservation}
use Rattle.ldm_model.specs.Examples.{sample_info, reserve_of, fill_of, insert_of, state_after}

-- actor 0 reserved a region for a product of four bytes, and filled all of them in
abbrev pub state_filled : State
state_filled = state_after 168 10 (reserve_of 1 4 ∷ fill_of 0 (replicate 4 65) ∷ [])

abbrev pub reservation_filled : Reservation
reservation_filled = record { actor = 0; info = sample_info 1 4; place = 0; filled = replicate 4 65 }

-- a product with that signature was inserted then
abbrev pub state_doubled : State
state_doubled = state_after 168 10 (reserve_of 1 4 ∷ fill_of 0 (replicate 4 65) ∷ insert_of 100 1 4 ∷ [])
