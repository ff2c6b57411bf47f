-- What a product keeps in all states that follow.
use Rattle.std.specs.Prelude.{◌≡◌, ℕ, Option, Some, slice_get}
use Rattle.ldm_model.specs.Product.{Product}
use Rattle.ldm_model.specs.State.{State}

-- the product is the one of that number, and has that insertion time, whether it is still queued or not
abbrev pub HasRow : ℕ → Product → ℕ → State → Type 0
HasRow n product time s = (place : Option ℕ) × (slice_get s.rows n ≡ Some (record { product = product; time = time; place = place }))
