-- What a contract sees of the products of a queue.
use Rattle.std.specs.Prelude.{ℕ, ◌+◌, ◌*◌, ◌/◌, ◌<◌, ◌≤◌, Bool, not, ◌==◌, ◌&&◌, nat_le, nat_lt, List, [], ◌∷◌, ◌++◌, length, map, filter, set, slice_index_or, Option, Some, None, if◌then◌else◌}
use Rattle.std.specs.List.{AllByRecursion}
use Rattle.ldm_types.specs.Feed.{feeds_meet}
use Rattle.ldm_types.specs.Arena.{Region, fit, AreApart}
use Rattle.ldm_book.specs.View.{Kept, KeptReservation, Reservations, open_kept}

pub record ProductsView : Type 0 where
  -- bytes of the arena
  pub arena : ℕ
  pub slots : ℕ
  -- the products, in the order of their numbers
  pub rows : List Kept
  -- the reservation places
  pub reservations : Reservations

-- each number is below those that stand behind it
abbrev pub AreRising : List Kept → Type 0
AreRising [] = Unit {0}
AreRising (k ∷ ks) = AllByRecursion (λ other. k.number < other.number) ks × AreRising ks

-- the bytes of the arena that so many bytes of metadata and of a body take, as `extent_of` of a product
abbrev pub extent_from : ℕ → ℕ → ℕ
extent_from head size = 8 * ((head + size + 7) / 8)

abbrev pub kept_extent : Kept → ℕ
kept_extent k = extent_from k.head k.size

-- where a product lies
abbrev pub kept_region : Kept → Region
kept_region k = record { start = k.place; extent = kept_extent k }

abbrev pub kept_number : Kept → ℕ
kept_number k = k.number

-- whether a product has that number or a greater one
abbrev pub at_number : ℕ → Kept → Bool
at_number n k = nat_le n k.number

-- whether a product was inserted later than that
abbrev pub is_later : ℕ → Kept → Bool
is_later time k = nat_lt time k.time

-- whether a product has that number or a greater one, and feedtypes that meet these
abbrev pub awaits : ℕ → ℕ → Kept → Bool
awaits n feed k = nat_le n k.number && feeds_meet feed k.feed

-- whether a product has that very number
abbrev pub has_number : ℕ → Kept → Bool
has_number n k = k.number == n

-- whether a product has another number
abbrev pub is_other : ℕ → Kept → Bool
is_other n k = not (k.number == n)

-- regions lie within the arena, and no two of them share a position
abbrev pub LieApart : ℕ → List Region → Type 0
LieApart arena [] = Unit {0}
LieApart arena (region ∷ regions) = (region.start + region.extent ≤ arena) × AllByRecursion (λ other. AreApart region other) regions × LieApart arena regions

-- the region that is reserved
abbrev pub reserved_region : KeptReservation → Region
reserved_region v = kept_region v.product

-- what occupies the arena: the products and the open reservations
abbrev pub occupied_by : List Kept → Reservations → List Region
occupied_by rows reservations = map kept_region rows ++ map reserved_region (open_kept reservations)

abbrev pub occupied_in : ProductsView → List Region
occupied_in p = occupied_by p.rows p.reservations

-- how many slots are taken
abbrev pub taken_in : ProductsView → ℕ
taken_in p = length p.rows + length (open_kept p.reservations)

-- where a product of that extent goes, if a slot is free and a gap is long enough
abbrev pub room_for : ProductsView → ℕ → Option ℕ
room_for p need = if nat_lt (taken_in p) p.slots then fit need (occupied_in p) p.arena else None

-- one more product, behind the others
abbrev pub with_row : ProductsView → Kept → ProductsView
with_row p k = record p { rows = p.rows ++ k ∷ [] }

-- without the product of that number
abbrev pub without : ℕ → ProductsView → ProductsView
without n p = record p { rows = filter (is_other n) p.rows }

-- the reservation of a place, if it is open
abbrev pub reservation_at : Reservations → ℕ → Option KeptReservation
reservation_at reservations r = slice_index_or reservations r None

-- a reservation, where it is the actor's
abbrev pub if_reserved_by : ℕ → Option KeptReservation → Option KeptReservation
if_reserved_by actor None = None
if_reserved_by actor (Some v) = if v.actor == actor then Some v else None

-- with so many bytes more filled in
abbrev pub with_more : ℕ → KeptReservation → KeptReservation
with_more count v = record v { filled = v.filled + count }

-- with a reservation place changed
abbrev pub with_reservation : ProductsView → ℕ → Option KeptReservation → ProductsView
with_reservation p r place = record p { reservations = set p.reservations r place }

-- the product that a reservation becomes
abbrev pub committed : ℕ → ℕ → KeptReservation → Kept
committed n time v = record v.product { number = n; time = time }
