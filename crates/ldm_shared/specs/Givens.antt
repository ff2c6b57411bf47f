-- What a cursor is given, step by step, as plain data.
use Rattle.std.specs.Prelude.{ℕ, List, [], ◌∷◌, length}
use Rattle.std.specs.List.{flat_map}
use Rattle.ldm_model.specs.declared.event.Reply.{Reply}
use Rattle.ldm_model.specs.declared.event.Reply.TheVariants as reply
use Rattle.ldm_model.specs.Product.{Product}

-- A product that the cursor was given: its number, its insertion time, and the product that was admitted under that number.
pub record Given : Type 0 where
  pub n : ℕ
  pub time : ℕ
  pub product : Product

pub data Turn : Type 0 where
  -- the cursor was told losses
  Lost : (count first last : ℕ) → Turn
  -- it was given a product
  Gave : Given → Turn

-- how the step was answered
abbrev pub turn_reply : Turn → Reply
turn_reply (Lost count first last) = reply.Gap count first last
turn_reply (Gave given) = reply.Product given.n given.time given.product.info

abbrev pub turn_product : Turn → List Given
turn_product (Lost count first last) = []
turn_product (Gave given) = given ∷ []

-- the products that the cursor was given, in order
abbrev pub products_of : List Turn → List Given
products_of turns = flat_map turn_product turns

-- how many these are
abbrev pub count_of : List Turn → ℕ
count_of turns = length (products_of turns)
