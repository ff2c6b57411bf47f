-- What stands in the arena: the metadata of a product as they are spelled, and its body behind them.
use Rattle.std.specs.Prelude.{◌≡◌, ℕ, ◌+◌, ◌%◌, ◌≤◌, List, ◌++◌, length}
use Rattle.std.specs.List.{AllByRecursion, between}
use Rattle.ldm_types.specs.declared.limits.TheConstants.{ARENA_UNIT}
use Rattle.ldm_types.specs.Info.{Metadata, metadata_len}
use Rattle.ldm_xdr.specs.Spelling.{Fits, spelling}
use Rattle.ldm_model.specs.Product.{Product}
use Rattle.ldm_model.specs.State.{Queued, Reservation}
use Rattle.ldm_book.specs.View.{Kept, KeptReservation, Reservations, kept, kept_of, open_kept, stored_bytes}

-- the bytes of a product
abbrev pub bytes_of : Product → List ℕ
bytes_of p = spelling p.info ++ p.body

-- The metadata of a row can be spelled, and from its place on the arena has its bytes.
pub record IsStored (bytes : List ℕ) (q : Queued) : Type 0 where
  pub fits : Fits q.product.info
  pub stands : stored_bytes bytes (kept q) ≡ bytes_of q.product

-- so it is for each of these rows
abbrev pub AreStored : List ℕ → List Queued → Type 0
AreStored bytes rows = AllByRecursion (IsStored bytes) rows

-- The metadata of a reservation can be spelled, and from its place on the arena has them and then the bytes that were filled in.
pub record IsFilled (bytes : List ℕ) (v : Reservation) : Type 0 where
  pub fits : Fits v.info
  pub stands : between v.place (v.place + metadata_len v.info + length v.filled) bytes ≡ spelling v.info ++ v.filled

-- so it is for each of these reservations
abbrev pub AreFilled : List ℕ → List Reservation → Type 0
AreFilled bytes reservations = AllByRecursion (IsFilled bytes) reservations

-- metadata that can be spelled stand at a place
pub record StandsAt (bytes : List ℕ) (place : ℕ) (info : Metadata) : Type 0 where
  pub fits : Fits info
  pub spelled : between place (place + metadata_len info) bytes ≡ spelling info

-- metadata stand at the place of a kept product, a multiple of the unit of arenas, and it is kept with these
pub record HasMetadata (bytes : List ℕ) (k : Kept) : Type 0 where
  pub info : Metadata
  pub at : StandsAt bytes k.place info
  pub same : k ≡ kept_of k.number k.time k.place info
  pub placed : k.place % ARENA_UNIT ≡ 0

-- so it is for each of these products
abbrev pub HaveMetadata : List ℕ → List Kept → Type 0
HaveMetadata bytes rows = AllByRecursion (HasMetadata bytes) rows

-- metadata stand at the place of a reservation, and no more was filled in than its body has
pub record IsReserved (bytes : List ℕ) (v : KeptReservation) : Type 0 where
  pub metadata : HasMetadata bytes v.product
  pub part : v.filled ≤ v.product.size

-- so it is for each open one
abbrev pub AreReserved : List ℕ → Reservations → Type 0
AreReserved bytes reservations = AllByRecursion (IsReserved bytes) (open_kept reservations)
