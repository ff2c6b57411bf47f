-- Where a cursor begins, and making room by evicting the oldest products that nobody holds, for a product or a reservation.
use Rattle.std.specs.Prelude.{◌≡◌, ℕ, ◌+◌, ◌<◌, ◌≤◌, true, List, [], ◌∷◌, ◌++◌, length, set, is_some, Option, Some, None}
use Rattle.std.specs.List.{find}
use Rattle.std.specs.Option.{option_map}
use borrow.Rule.Slice.PartMut.{put_mid}
use Rattle.ldm_types.specs.Info.{Metadata}
use Rattle.ldm_model.specs.declared.event.Start.{Start}
use Rattle.ldm_model.specs.declared.event.Start.TheVariants.{Oldest, Next, After, AfterSignature}
use Rattle.ldm_model.specs.Product.{extent_of}
use Rattle.ldm_xdr.specs.Spelling.{spelling}
use Rattle.ldm_book.specs.View.{BookView, Kept, KeptReservation, kept_of}
use Rattle.ldm_book.specs.Stored.{bytes_of}
use Rattle.ldm_book.specs.Lookup.{kept_with}
use Rattle.ldm_book.specs.Products.{committed, room_for, is_later}
use Rattle.ldm_book.specs.Readers.{products, unheld_numbers, without_oldest}

-- the number of a kept product, or the end where there is none
abbrev pub number_or_end : BookView → Option Kept → ℕ
number_or_end book None = book.admitted
number_or_end book (Some k) = k.number

-- the number behind a kept product
abbrev pub number_behind : Kept → ℕ
number_behind k = k.number + 1

-- where a cursor begins, unless the product that it is to begin behind is not kept
abbrev pub start_at : BookView → Start → Option ℕ
start_at book Oldest = Some (number_or_end book (find (λ k. true) book.rows))
start_at book Next = Some book.admitted
start_at book (After time) = Some (number_or_end book (find (is_later time) book.rows))
start_at book (AfterSignature signature) = option_map number_behind (kept_with signature.0 book.rows)

-- an insertion time that comes after the last one
abbrev pub IsTimely : Option ℕ → ℕ → Type 0
IsTimely None time = Unit {0}
IsTimely (Some last) time = last < time

-- the product that is put in at a place
abbrev pub new_kept : BookView → ℕ → Metadata → ℕ → Kept
new_kept book time info place = kept_of book.admitted time place info

-- the arena with the bytes of a product from a place on
abbrev pub written : List ℕ → List ℕ → ℕ → List ℕ
written bytes new place = put_mid place (length new) bytes new

-- a book with one product more, behind the others, and with its bytes
abbrev pub grown : BookView → ℕ → Metadata → List ℕ → ℕ → BookView
grown book time info body place = record book {
  bytes = written book.bytes (bytes_of (record { info = info; body = body })) place;
  admitted = book.admitted + 1;
  last = Some time;
  rows = book.rows ++ new_kept book time info place ∷ [];
}

-- A product was put in where there was room.
pub record Puts (time : ℕ) (info : Metadata) (body : List ℕ) (old new : BookView) : Type 0 where
  pub place : ℕ
  pub room : room_for (products old) (extent_of info) ≡ Some place
  pub within : place + extent_of info ≤ old.arena
  pub sized : length old.bytes ≡ old.arena
  pub new_is : new ≡ grown old time info body place

-- a reservation with no byte of the body yet
abbrev pub new_reservation : ℕ → Metadata → ℕ → KeptReservation
new_reservation actor info place = record { actor = actor; product = kept_of 0 0 place info; filled = 0 }

-- a book with a reservation place changed
abbrev pub reserving : BookView → ℕ → Option KeptReservation → BookView
reserving book r place = record book { reservations = set book.reservations r place }

-- a book with a region reserved at a place, where the metadata stand
abbrev pub reserved_at : BookView → ℕ → ℕ → Metadata → ℕ → BookView
reserved_at book actor r info place = record (reserving book r (Some (new_reservation actor info place))) { bytes = written book.bytes (spelling info) place }

-- A region was reserved where there was room.
pub record Reserves (actor r : ℕ) (info : Metadata) (old new : BookView) : Type 0 where
  pub bound : r < length old.reservations
  pub place : ℕ
  pub room : room_for (products old) (extent_of info) ≡ Some place
  pub within : place + extent_of info ≤ old.arena
  pub sized : length old.bytes ≡ old.arena
  pub new_is : new ≡ reserved_at old actor r info place

-- So many products were evicted, the oldest first of those that nobody holds, and fewer would not have made room for so many
-- bytes.
pub record MakesRoom (evicted need : ℕ) (old new : BookView) : Type 0 where
  pub free : evicted ≤ length (unheld_numbers old)
  pub needed : (i : ℕ) → i < evicted → room_for (products (without_oldest i old)) need ≡ None
  pub room : is_some (room_for (products new) need) ≡ true
  pub new_is : new ≡ without_oldest evicted old

-- a book whose reservation became a product
abbrev pub with_committed : BookView → ℕ → ℕ → KeptReservation → BookView
with_committed book r time v = record (reserving book r None) {
  admitted = book.admitted + 1;
  last = Some time;
  rows = book.rows ++ committed book.admitted time v ∷ [];
}
