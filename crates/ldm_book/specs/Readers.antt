-- What readers hold, and what evicting the oldest products that nobody holds leaves.
use Rattle.std.specs.Prelude.{◌≡◌, ℕ, ◌+◌, ◌≤◌, Bool, true, false, not, ◌∷◌, [], List, length, map, filter, take, Option, Some, None}
use Rattle.std.specs.List.{AllByRecursion, find, list_any}
use Rattle.std.specs.Option.{IfSome}
use Rattle.ldm_types.specs.Arena.{Region}
use Rattle.ldm_types.specs.Cursors.{KeptCursor, Losses, Places}
use Rattle.ldm_cursor.specs.Places.{is_held, with_loss}
use Rattle.ldm_book.specs.View.{BookView, Kept}
use Rattle.ldm_book.specs.Products.{ProductsView, at_number, has_number, is_other, kept_number, occupied_in, taken_in}

-- whether a cursor holds a kept product
abbrev pub is_kept_held : Places → Kept → Bool
is_kept_held cursors k = is_held k.number cursors

-- whether none does
abbrev pub is_kept_free : Places → Kept → Bool
is_kept_free cursors k = not (is_held k.number cursors)

-- the numbers of the products that nobody holds
abbrev pub free_numbers : Places → List Kept → List ℕ
free_numbers cursors rows = map kept_number (filter (is_kept_free cursors) rows)

-- those of a book, the oldest first
abbrev pub unheld_numbers : BookView → List ℕ
unheld_numbers book = free_numbers book.cursors book.rows

-- the first of these numbers
abbrev pub first_of : List ℕ → Option ℕ
first_of [] = None
first_of (n ∷ ns) = Some n

-- the products that nobody holds have that number or a greater one
abbrev pub AreAhead : ℕ → Places → List Kept → Type 0
AreAhead n cursors rows = AllByRecursion (λ (k : Kept). is_kept_held cursors k ≡ false → n ≤ k.number) rows

-- the products of a book
abbrev pub products : BookView → ProductsView
products book = record { arena = book.arena; slots = book.slots; rows = book.rows; reservations = book.reservations }

-- what occupies the arena of a book, and how many of its slots are taken
abbrev pub occupied : BookView → List Region
occupied book = occupied_in (products book)

abbrev pub slots_taken : BookView → ℕ
slots_taken book = taken_in (products book)

-- those that are held, and the reservations
abbrev pub held_products : BookView → ProductsView
held_products book = record (products book) { rows = filter (is_kept_held book.cursors) book.rows }

-- the feedtypes of a product, if there is one
abbrev pub feed_of : Option Kept → ℕ
feed_of None = 0
feed_of (Some k) = k.feed

-- a book after a product was evicted: the cursors that it was still to come to lose it
abbrev pub without_product : ℕ → BookView → BookView
without_product n book = record book {
  rows = filter (is_other n) book.rows;
  cursors = map (with_loss n (feed_of (find (at_number n) book.rows))) book.cursors;
}

-- after these were evicted, the first of them first
abbrev pub without_all : List ℕ → BookView → BookView
without_all [] book = book
without_all (n ∷ ns) book = without_all ns (without_product n book)

-- after so many of the oldest that nobody holds were evicted
abbrev pub without_oldest : ℕ → BookView → BookView
without_oldest j book = without_all (take j (unheld_numbers book)) book

-- A cursor was given no more products than are before its position, which is not behind the end, and lost none that is
-- queued. What it holds is queued.
pub record IsReading (admitted : ℕ) (rows : List Kept) (cursor : KeptCursor) : Type 0 where
  pub given : cursor.given ≤ cursor.position
  pub position : cursor.position ≤ admitted
  pub lost : cursor.lost + length rows ≤ admitted
  pub untold : IfSome cursor.untold (λ (losses : Losses). losses.count ≤ cursor.lost)
  pub held : IfSome cursor.held (λ n. list_any (has_number n) rows ≡ true)

-- an open cursor of a place is one
abbrev pub IsPlaceReading : ℕ → List Kept → Option KeptCursor → Type 0
IsPlaceReading admitted rows place = IfSome place (IsReading admitted rows)

-- and so is that of each place
abbrev pub AreReading : ℕ → List Kept → Places → Type 0
AreReading admitted rows cursors = AllByRecursion (IsPlaceReading admitted rows) cursors
