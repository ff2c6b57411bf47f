-- What a contract sees of a book.
use Rattle.std.specs.Prelude.{ℕ, ◌+◌, List, [], ◌∷◌, length, Option, Some, None}
use Rattle.std.specs.List.{between}
use Rattle.ldm_types.specs.Info.{Metadata, metadata_len}
use Rattle.ldm_types.specs.Cursors.{Places}
use Rattle.ldm_model.specs.State.{Queued, Reservation}

-- A kept product: its number, its insertion time, where it begins in the arena, and what finding, evicting and stepping ask
-- of its metadata. The metadata themselves stand in the arena.
pub record Kept : Type 0 where
  pub number : ℕ
  pub time : ℕ
  pub place : ℕ
  pub signature : List ℕ
  pub feed : ℕ
  -- bytes of the metadata
  pub head : ℕ
  -- bytes of the body
  pub size : ℕ

-- A region that is reserved: whose it is, the product that it is for, and how many bytes of the body were filled in. The
-- product has number 0 and time 0: it has none yet.
pub record KeptReservation : Type 0 where
  pub actor : ℕ
  pub product : Kept
  pub filled : ℕ

-- 64 places, each empty or with an open reservation
abbrev pub Reservations : Type 0
Reservations = List (Option KeptReservation)

pub record BookView : Type 0 where
  -- how many bytes the arena has, and these
  pub arena : ℕ
  pub bytes : List ℕ
  pub slots : ℕ
  -- how many products were ever admitted
  pub admitted : ℕ
  -- the insertion time of the last of them
  pub last : Option ℕ
  -- the queued products, in the order of their numbers
  pub rows : List Kept
  -- the 64 cursor places
  pub cursors : Places
  -- the 64 reservation places
  pub reservations : Reservations

-- what is kept of a product with these metadata
abbrev pub kept_of : ℕ → ℕ → ℕ → Metadata → Kept
kept_of number time place info = record {
  number = number;
  time = time;
  place = place;
  signature = info.signature;
  feed = info.feed;
  head = metadata_len info;
  size = info.size;
}

-- what a book keeps of a present row
abbrev pub kept : Queued → Kept
kept q = kept_of q.number q.time q.place q.product.info

-- and of a reservation
abbrev pub kept_reservation : Reservation → KeptReservation
kept_reservation v = record { actor = v.actor; product = kept_of 0 0 v.place v.info; filled = length v.filled }

-- the open ones of these reservation places, in order
abbrev pub open_kept : Reservations → List KeptReservation
open_kept [] = []
open_kept (None ∷ places) = open_kept places
open_kept (Some v ∷ places) = v ∷ open_kept places

-- the bytes of the arena that are its metadata and its body
abbrev pub stored_bytes : List ℕ → Kept → List ℕ
stored_bytes bytes k = between k.place (k.place + k.head + k.size) bytes

-- the bytes of the arena from the place of a reservation up to what was filled in
abbrev pub filled_bytes : List ℕ → KeptReservation → List ℕ
filled_bytes bytes v = between v.product.place (v.product.place + v.product.head + v.filled) bytes

-- where the body of a kept product begins: behind its metadata
abbrev pub body_start : Kept → ℕ
body_start k = k.place + k.head

-- the bytes of the arena that are its body
abbrev pub body_of : List ℕ → Kept → List ℕ
body_of bytes k = between (body_start k) (body_start k + k.size) bytes
