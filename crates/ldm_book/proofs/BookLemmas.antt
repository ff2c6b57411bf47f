-- What is always true of a book, as contracts see it.
use Rattle.std.proofs.Common.{◌≡◌, ℕ, ◌+◌, ◌≤◌, Some, sym, ap, subst, ◌∙◌, arith}
use Rattle.ldm_book.specs.declared.book.Book.TheInside.{Inside}
use Rattle.ldm_book.specs.View.{BookView, KeptReservation}
use Rattle.ldm_book.specs.Products.{LieApart, ProductsView, kept_extent, occupied_in, reservation_at, room_for}
use Rattle.ldm_book.specs.Readers.{occupied, products}
use Rattle.ldm_book.specs.Sound.{IsSound, view_of}
use Rattle.ldm_book.specs.Stored.{AreReserved}
use Rattle.ldm_book.proofs.ApartLemmas.{reserved_within}
use Rattle.ldm_book.proofs.StoredLemmas.{reserved_one_at}

module _ (b : Inside) (sound : IsSound b) where
  -- its products are those that it keeps
  pub same_products : products (view_of b) ≡ b.products
  same_products = λ i. record { arena = sound.arena i; slots = b.products.slots; rows = b.products.rows; reservations = b.products.reservations }

  pub room_seen : (book : BookView) (need : ℕ) → view_of b ≡ book → room_for b.products need ≡ room_for (products book) need
  room_seen book need is = ap (λ (p : ProductsView). room_for p need) (sym same_products) ∙ ap (λ (v : BookView). room_for (products v) need) is

  -- they lie apart
  pub sound_apart : (book : BookView) → view_of b ≡ book → LieApart book.arena (occupied book)
  sound_apart book is = subst (λ (v : BookView). LieApart v.arena (occupied v)) is (subst (λ (a : ℕ). LieApart a (occupied_in b.products)) (sym sound.arena) sound.apart)

  -- and the arena has what was filled in for the reservations
  pub sound_reserved : (book : BookView) → view_of b ≡ book → AreReserved book.bytes book.reservations
  sound_reserved book is = subst (λ (v : BookView). AreReserved v.bytes v.reservations) is sound.reserved

  -- a reservation has no more than its body, and lies in the arena
  pub place_part : (r : ℕ) (v : KeptReservation) → reservation_at b.products.reservations r ≡ Some v → v.filled ≤ v.product.size
  place_part r v at = (reserved_one_at b.arena.items b.products.reservations r v at sound.reserved).part

  pub place_lies : (r : ℕ) (v : KeptReservation) → reservation_at b.products.reservations r ≡ Some v → v.product.place + kept_extent v.product ≤ b.arena.len
  place_lies r v at = (let lies = reserved_within b.products.arena b.products.rows b.products.reservations r v at sound.apart in omega (arith, lies, sound.arena))
