-- What a receiver asks of its queue for products that come to it, as entries of the queue. The queue may reply what it likes.
use Rattle.std.specs.Prelude.{◌≡◌, ◌⊎◌, ℕ, Bool, true, false, List, [], ◌∷◌, ◌++◌, Contains}
use Rattle.ldm_model.specs.declared.event.Event.{Event}
use Rattle.ldm_model.specs.declared.event.Event.TheVariants.{Insert, Reserve, Fill, Commit}
use Rattle.ldm_model.specs.declared.event.Reply.{Reply}
use Rattle.ldm_model.specs.declared.event.Reply.TheVariants.{Reserved}
use Rattle.ldm_model.specs.declared.event.Entry.{Entry}
use Rattle.ldm_model.specs.Product.{Product}
use Rattle.ldm_intake.specs.Course.{entry_by}
use Rattle.ldm_upstream.specs.Blocks.{blocks}
use Rattle.ldm_between_ends.specs.Handed.{Way, Whole, Declined, InBlocks, Announced, Handed}

-- Entries are those of one thing, and behind them those of another.
pub record Joins (First Second : List Entry → Type 0) (made : List Entry) : Type 0 where
  pub first : List Entry
  pub second : List Entry
  pub all : made ≡ first ++ second
  pub is_first : First first
  pub is_second : Second second

abbrev pub is_reserved : Reply → Bool
is_reserved (Reserved r evicted) = true
is_reserved _ = false

-- a call that fills each of these blocks in, in order
abbrev pub Fills : ℕ → ℕ → List (List ℕ) → List Entry → Type 0
Fills actor r [] [] = Unit {0}
Fills actor r [] (entry ∷ made) = ⊥
Fills actor r (block ∷ behind) [] = ⊥
Fills actor r (block ∷ behind) (entry ∷ made) = (entry ≡ entry_by actor (Fill r block) entry.reply) × Fills actor r behind made

-- It is inserted, at one of these moments.
pub record TakesWhole (actor : ℕ) (moments : List ℕ) (product : Product) (made : List Entry) : Type 0 where
  pub now : ℕ
  pub reply : Reply
  pub moment : Contains moments now
  pub is : made ≡ entry_by actor (Insert now product.info product.body) reply ∷ []

-- A region is asked for, and there is none.
pub record TakesNone (actor : ℕ) (product : Product) (made : List Entry) : Type 0 where
  pub reply : Reply
  pub refused : is_reserved reply ≡ false
  pub is : made ≡ entry_by actor (Reserve product.info) reply ∷ []

-- A region is reserved, its blocks are filled in, and it is committed, at one of these moments.
pub record TakesBlocks (actor : ℕ) (moments : List ℕ) (product : Product) (made : List Entry) : Type 0 where
  pub r : ℕ
  pub evicted : ℕ
  pub fills : List Entry
  pub filled : Fills actor r (blocks product.body) fills
  pub now : ℕ
  pub reply : Reply
  pub moment : Contains moments now
  pub is : made ≡ entry_by actor (Reserve product.info) (Reserved r evicted) ∷ (fills ++ entry_by actor (Commit r now) reply ∷ [])

-- A product is taken. One to whose announcement no reply came is taken where it was declined.
abbrev pub TakesBy : Way → ℕ → List ℕ → Product → List Entry → Type 0
TakesBy Whole actor moments product made = TakesWhole actor moments product made
TakesBy Declined actor moments product made = TakesNone actor product made
TakesBy InBlocks actor moments product made = TakesBlocks actor moments product made
TakesBy Announced actor moments product made = TakesNone actor product made

abbrev pub TakesProduct : ℕ → List ℕ → Handed → List Entry → Type 0
TakesProduct actor moments handed made = TakesBy handed.way actor moments handed.given.product made

-- Products are taken, one after another.
abbrev pub Takings : ℕ → List ℕ → List Handed → List Entry → Type 0
Takings actor moments [] made = made ≡ []
Takings actor moments (product ∷ behind) made = Joins (TakesProduct actor moments product) (Takings actor moments behind) made

-- ---- a product that is not taken yet

-- A region is reserved, and some of its blocks are filled in, not all.
pub record BeginsBlocks (actor : ℕ) (product : Product) (made : List Entry) : Type 0 where
  pub r : ℕ
  pub evicted : ℕ
  pub front : List (List ℕ)
  pub behind : List (List ℕ)
  pub all : front ++ behind ≡ blocks product.body
  pub more : ¬ (behind ≡ [])
  pub fills : List Entry
  pub filled : Fills actor r front fills
  pub is : made ≡ entry_by actor (Reserve product.info) (Reserved r evicted) ∷ fills

-- A region is reserved.
pub record Reserves (actor : ℕ) (product : Product) (made : List Entry) : Type 0 where
  pub r : ℕ
  pub evicted : ℕ
  pub is : made ≡ entry_by actor (Reserve product.info) (Reserved r evicted) ∷ []

-- Nothing is asked for it yet, or it is begun.
abbrev pub BeginsBy : Way → ℕ → Product → List Entry → Type 0
BeginsBy Whole actor product made = made ≡ []
BeginsBy Declined actor product made = made ≡ []
BeginsBy InBlocks actor product made = (made ≡ []) ⊎ BeginsBlocks actor product made
BeginsBy Announced actor product made = (made ≡ []) ⊎ Reserves actor product made

-- the first of these products, if there is one
abbrev pub BeginsFirst : ℕ → List Handed → List Entry → Type 0
BeginsFirst actor [] made = made ≡ []
BeginsFirst actor (product ∷ behind) made = BeginsBy product.way actor product.given.product made

-- ---- moments

-- the moment of an event, where it has one
abbrev pub IsAt : ℕ → Event → Type 0
IsAt now (Insert at info body) = at ≡ now
IsAt now (Commit r at) = at ≡ now
IsAt now _ = Unit {0}
