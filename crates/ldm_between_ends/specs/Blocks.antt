-- What the receiver asked its queue for a product that goes in blocks.
use Rattle.std.specs.Prelude.{◌≡◌, ◌⊎◌, ℕ, List, [], ◌∷◌, ◌++◌, Contains}
use Rattle.ldm_model.specs.declared.event.Event.TheVariants.{Fill}
use Rattle.ldm_model.specs.declared.event.Reply.{Reply}
use Rattle.ldm_model.specs.declared.event.Entry.{Entry}
use Rattle.ldm_model.specs.Product.{Product}
use Rattle.ldm_intake.specs.Course.{entry_by}
use Rattle.ldm_upstream.specs.Blocks.{blocks}
use Rattle.ldm_between_ends.specs.Passing.{Passing, moments_of}
use Rattle.ldm_between_ends.specs.Takings.{TakesNone, TakesBlocks}

-- Among these calls stand some of that kind, one behind the other.
pub record Has (Kind : List Entry → Type 0) (made : List Entry) : Type 0 where
  pub front : List Entry
  pub those : List Entry
  pub behind : List Entry
  pub are : made ≡ front ++ (those ++ behind)
  pub kind : Kind those

-- All its blocks came, the last one too: each was filled in.
pub record CameInBlocks (actor : ℕ) (moments : List ℕ) (product : Product) (made : List Entry) : Type 0 where
  pub takes : TakesBlocks actor moments product made
  -- the last block, and those before it
  pub others : List (List ℕ)
  pub last : List ℕ
  pub blocks_are : blocks product.body ≡ others ++ last ∷ []
  pub reply : Reply
  pub last_came : Contains made (entry_by actor (Fill takes.r last) reply)

-- It was asked for in blocks and all of them came, or it was declined.
abbrev pub CameOrDeclined : Passing → Product → Type 0
CameOrDeclined p product =
    Has (CameInBlocks p.actor (moments_of p.pieces) product) p.made ⊎ Has (TakesNone p.actor product) p.made
