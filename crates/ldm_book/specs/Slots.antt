-- How the products of a queue are kept: in slots, which the indexes and the reservation places name.
use Rattle.std.specs.Prelude.{◌≡◌, ◌≢◌, ◌⊎◌, ℕ, ◌+◌, ◌<◌, ◌≤◌, List, [], ◌∷◌, length, map, set, slice_index_or, Option, Some, None}
use Rattle.std.specs.FinMap as fin
use Rattle.std.specs.List.{AllByRecursion}
use Rattle.std.specs.Option.{option_map}
use Rattle.std.specs.Vec.{vec_capacity}
use Rattle.ldm_types.specs.declared.limits.TheConstants.{LARGEST_ARENA, MOST_SLOTS}
use Rattle.ldm_model.specs.Stat.{extents}
use Rattle.ldm_regions.specs.Layout.{Tiles}
use Rattle.ldm_sigindex.specs.Index.{Table, IsOneToOne}
use Rattle.ldm_timeindex.specs.Times.{Queued, IsRising}
use Rattle.ldm_book.specs.declared.row.Row.{Row}
use Rattle.ldm_book.specs.declared.products.Products.TheInside.{Inside}
use Rattle.ldm_book.specs.View.{Kept, open_kept}
use Rattle.ldm_book.specs.Products.{ProductsView, kept_region, occupied_by}
use Rattle.ldm_book.specs.Reserved.{KeptPlaces, reservations_of}
use Rattle.ldm_book.specs.RowKept.{kept_row}

-- the product of each slot that has one
abbrev pub Slots : Type 0
Slots = List (Option Kept)

-- A slot has a product where the index has a signature for it: that of its row. Else its row tells nothing.
abbrev pub slots_from : List Row → Table → Slots
slots_from [] table = []
slots_from (row ∷ rows) [] = []
slots_from (row ∷ rows) (signature ∷ table) = option_map (λ (s : List ℕ). kept_row row) signature ∷ slots_from rows table

abbrev pub slots_of : Inside → Slots
slots_of p = slots_from p.slots.items p.by_signature

-- the product of a slot, if it has one
abbrev pub row_at : Slots → ℕ → Option Kept
row_at slots k = slice_index_or slots k None

abbrev pub signature_of : Option Kept → Option (List ℕ)
signature_of row = option_map (λ (k : Kept). k.signature) row

-- what is kept of no product
abbrev pub no_product : Kept
no_product = record { number = 0; time = 0; place = 0; signature = []; feed = 0; head = 0; size = 0 }

abbrev pub kept_or_none : Option Kept → Kept
kept_or_none None = no_product
kept_or_none (Some k) = k

-- an entry of the index by number, with what its slot has
abbrev pub with_entry : Queued → Option Kept → Kept
with_entry entry row = record (kept_or_none row) { number = entry.n; time = entry.time }

abbrev pub kept_entry : Slots → Queued → Kept
kept_entry slots entry = with_entry entry (row_at slots entry.slot)

abbrev pub kept_entries : Slots → List Queued → List Kept
kept_entries slots entries = map (kept_entry slots) entries

abbrev pub products_of : Inside → ProductsView
products_of p = record {
  arena = p.regions.arena;
  slots = p.regions.slots;
  rows = kept_entries (slots_of p) p.by_number.entries;
  reservations = reservations_of p.reserved;
}

-- the slot of an entry has a product, with the number and the time of the entry
abbrev pub IsAt : Slots → Queued → Type 0
IsAt slots entry = (row : Kept) × (row_at slots entry.slot ≡ Some row) × (row.number ≡ entry.n) × (row.time ≡ entry.time)

-- an entry has that slot
abbrev pub HasSlot : ℕ → List Queued → Type 0
HasSlot k [] = ⊥
HasSlot k (entry ∷ entries) = (entry.slot ≡ k) ⊎ HasSlot k entries

-- slots that have no product, none of them twice
abbrev pub AreFree : Slots → List ℕ → Type 0
AreFree slots [] = Unit {0}
AreFree slots (k ∷ ks) = (k < length slots) × (row_at slots k ≡ None) × AllByRecursion (λ other. other ≢ k) ks × AreFree slots ks

-- the product of each slot that is taken: a queued one, or one that a region is reserved for
abbrev pub taken_from : Slots → KeptPlaces → Slots
taken_from slots [] = slots
taken_from slots (None ∷ places) = taken_from slots places
taken_from slots (Some place ∷ places) = set (taken_from slots places) place.slot (Some place.product)

-- each open reservation has a slot of its own, and a product that has neither number nor time yet
abbrev pub HaveOwn : Slots → KeptPlaces → Type 0
HaveOwn slots [] = Unit {0}
HaveOwn slots (None ∷ places) = HaveOwn slots places
HaveOwn slots (Some place ∷ places) =
    (place.slot < length slots) × (row_at (taken_from slots places) place.slot ≡ None) × (place.product.number ≡ 0) × (place.product.time ≡ 0) × HaveOwn slots places

-- what is always true of the indexes, where the slots have these products
pub record AreIndexed (slots : Slots) (p : Inside) : Type 0 where
  -- one number of slots for all
  pub as_many : length slots ≡ p.regions.slots
  pub rowed : length p.slots.items ≡ p.regions.slots
  pub numbered : p.by_number.slots ≡ p.regions.slots
  -- the entries of the index by number: each has a slot with its product, and each product has an entry
  pub rising : IsRising p.by_number.entries
  pub entries : AllByRecursion (IsAt slots) p.by_number.entries
  pub listed : (k : ℕ) (row : Kept) → row_at slots k ≡ Some row → HasSlot k p.by_number.entries
  -- the index by signature has the signatures of the slots
  pub signatures : p.by_signature ≡ map signature_of slots
  pub one_to_one : IsOneToOne p.by_signature
  -- a slot owns the region of its product, and that of an open reservation the region that is reserved
  pub own : HaveOwn slots p.reserved
  pub owned : (k : ℕ) → fin.get p.regions.owned k ≡ option_map kept_region (row_at (taken_from slots p.reserved) k)
  pub tiles : Tiles p.regions
  -- all slots that are not taken are in the list of the free ones
  pub free : AreFree (taken_from slots p.reserved) p.free.items
  pub count : length p.free.items + length p.by_number.entries + length (open_kept (reservations_of p.reserved)) ≡ p.regions.slots
  -- so that a push takes no memory
  pub roomy : p.regions.slots ≤ vec_capacity p.free
  pub used : p.used ≡ extents (occupied_by (kept_entries slots p.by_number.entries) (reservations_of p.reserved))
  pub few : p.regions.slots ≤ MOST_SLOTS
  pub small : p.regions.arena ≤ LARGEST_ARENA

-- what is always true of the slots and the indexes
abbrev pub IsSlotted : Inside → Type 0
IsSlotted p = AreIndexed (slots_of p) p
