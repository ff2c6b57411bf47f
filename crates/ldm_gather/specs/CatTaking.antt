-- What writing a product does.
use Rattle.std.specs.Prelude.{◌≡◌, ◌≤◌}
use Rattle.std.specs.Vec.{vec_len}
use Rattle.ldm_outside.specs.Count.{Rose}
use Rattle.ldm_outside.specs.Io.{SinkRecord, Takes, WritesFront}
use Rattle.ldm_gather.specs.declared.taker.Taken.{Taken}
use Rattle.ldm_gather.specs.declared.taker.Taken.TheVariants.{On, Stopped, Worn}
use Rattle.ldm_shared.specs.Givens.{Given}
use Rattle.ldm_gather.specs.Taking.{Hands}
use Rattle.ldm_gather.specs.declared.cat.Cat.{Cat}
use Rattle.ldm_gather.specs.declared.cat_limits.TheConstants.{LARGEST_PIECE}

-- a piece of a body finds room
abbrev pub HasRoom : Cat → Type 0
HasRoom cat = vec_len cat.piece ≡ LARGEST_PIECE

module _ {K : Type 0} (tells : K → SinkRecord) where
  -- The sink took the body; or a front of it, where the sink failed, or where the queue has had all its calls.
  abbrev pub CatTakes : Taken → Given → Hands Cat K → Hands Cat K → Type 0
  CatTakes On given old new =
      Takes (tells old.lent) given.product.body (tells new.lent) × ((tells old.lent).faults ≤ (tells new.lent).faults)
  CatTakes Stopped given old new =
      WritesFront (tells old.lent) given.product.body (tells new.lent) × ((tells old.lent).faults ≤ (tells new.lent).faults)
      × Rose (tells old.lent).faults (tells new.lent).faults
  CatTakes Worn given old new =
      WritesFront (tells old.lent) given.product.body (tells new.lent) × ((tells old.lent).faults ≤ (tells new.lent).faults)
