-- The slots that are taken: those of the products, and those of the open reservations.
use Rattle.std.proofs.Common.{◌≡◌, ◌≢◌, ◌⊎◌, ℕ, zero, suc, ◌<◌, List, [], ◌∷◌, ◌++◌, length, map, set, Option, Some}
use Rattle.std.proofs.Common.{None, refl, sym, ap, subst, ◌∙◌, inl, inr, length-set, get_or-set_same, get_or-set_other, arith}
use Rattle.std.specs.List.{AllByRecursion}
use Rattle.std.proofs.lemmas.Bool.{cases_eq}
use Rattle.std.proofs.lemmas.List.{set_comm, set-set, set-get_or}
use Rattle.std.proofs.lemmas.Option.{none-some}
use Rattle.ldm_timeindex.specs.Times.{Queued}
use Rattle.ldm_book.specs.View.{Kept, open_kept}
use Rattle.ldm_book.specs.Products.{kept_region, reserved_region}
use Rattle.ldm_book.specs.Reserved.{KeptPlace, KeptPlaces, place_at, place_entries, reservations_of}
use Rattle.ldm_book.specs.Slots.{Slots, row_at, with_entry, kept_entries, IsAt, HasSlot, taken_from, HaveOwn}

pub length-taken : (slots : Slots) (places : KeptPlaces) → length (taken_from slots places) ≡ length slots
length-taken slots [] = refl
length-taken slots (None ∷ places) = length-taken slots places
length-taken slots (Some place ∷ places) = length-set (taken_from slots places) place.slot (Some place.product) ∙ length-taken slots places

-- a slot that has nothing is another than one that has something
pub other_than : (slots : Slots) (j k : ℕ) (row : Kept) → row_at slots j ≡ None → row_at slots k ≡ Some row → k ≢ j
other_than slots j k row none some same = none-some row (sym none ∙ ap (row_at slots) (sym same) ∙ some)

-- a slot has what it is given, and another what it had
pub given : (slots : Slots) (places : KeptPlaces) (place : KeptPlace) → place.slot < length slots
    → row_at (set (taken_from slots places) place.slot (Some place.product)) place.slot ≡ Some place.product
given slots places place inside = get_or-set_same (taken_from slots places) place.slot (Some place.product) None (omega (arith, length-taken slots places))

-- the slot of a product is taken by it
pub taken-kept : (slots : Slots) (places : KeptPlaces) (k : ℕ) (row : Kept) → HaveOwn slots places → row_at slots k ≡ Some row → row_at (taken_from slots places) k ≡ Some row
taken-kept slots [] k row own at = at
taken-kept slots (None ∷ places) k row own at = taken-kept slots places k row own at
taken-kept slots (Some place ∷ places) k row own at =
    let rest = taken-kept slots places k row own.4 at in
    get_or-set_other (taken_from slots places) place.slot k (Some place.product) None (other_than (taken_from slots places) place.slot k row own.1 rest) ∙ rest

-- a slot that is not taken has no product
pub free-kept : (slots : Slots) (places : KeptPlaces) (k : ℕ) → HaveOwn slots places → row_at (taken_from slots places) k ≡ None → row_at slots k ≡ None
free-kept slots places k own none = by_row (row_at slots k) refl
  where
    by_row : (o : Option Kept) → row_at slots k ≡ o → row_at slots k ≡ None
    by_row None at = at
    by_row (Some row) at = absurd (none-some row (sym none ∙ taken-kept slots places k row own at))

-- no open reservation has that slot
abbrev pub Avoid : ℕ → KeptPlaces → Type 0
Avoid k [] = Unit {0}
Avoid k (None ∷ places) = Avoid k places
Avoid k (Some place ∷ places) = (place.slot ≢ k) × Avoid k places

-- so it is for a slot that is not taken
pub avoid_free : (slots : Slots) (places : KeptPlaces) (k : ℕ) → HaveOwn slots places → row_at (taken_from slots places) k ≡ None → Avoid k places
avoid_free slots [] k own none = tt
avoid_free slots (None ∷ places) k own none = avoid_free slots places k own none
avoid_free slots (Some place ∷ places) k own none =
    let after = set (taken_from slots places) place.slot (Some place.product) in
    let apart : k ≢ place.slot = λ same. none-some place.product (sym none ∙ ap (row_at after) same ∙ given slots places place own.0) in
    (λ e. apart (sym e), avoid_free slots places k own.4 (sym (get_or-set_other (taken_from slots places) place.slot k (Some place.product) None apart) ∙ none))

-- and for the slot of a product
pub avoid_kept : (slots : Slots) (places : KeptPlaces) (k : ℕ) (row : Kept) → HaveOwn slots places → row_at slots k ≡ Some row → Avoid k places
avoid_kept slots [] k row own at = tt
avoid_kept slots (None ∷ places) k row own at = avoid_kept slots places k row own at
avoid_kept slots (Some place ∷ places) k row own at =
    (λ e. other_than (taken_from slots places) place.slot k row own.1 (taken-kept slots places k row own.4 at) (sym e), avoid_kept slots places k row own.4 at)

-- such a slot gets a product, or loses it
pub taken-set : (slots : Slots) (places : KeptPlaces) (k : ℕ) (held : Option Kept) → Avoid k places → taken_from (set slots k held) places ≡ set (taken_from slots places) k held
taken-set slots [] k held avoid = refl
taken-set slots (None ∷ places) k held avoid = taken-set slots places k held avoid
taken-set slots (Some place ∷ places) k held avoid =
    ap (λ (s : Slots). set s place.slot (Some place.product)) (taken-set slots places k held avoid.1)
    ∙ set_comm (taken_from slots places) k place.slot held (Some place.product) (λ e. avoid.0 (sym e))

pub own-set : (slots : Slots) (places : KeptPlaces) (k : ℕ) (held : Option Kept) → Avoid k places → HaveOwn slots places → HaveOwn (set slots k held) places
own-set slots [] k held avoid own = tt
own-set slots (None ∷ places) k held avoid own = own-set slots places k held avoid own
own-set slots (Some place ∷ places) k held avoid own = (
  omega (arith, own.0, length-set slots k held),
  ap (λ (s : Slots). row_at s place.slot) (taken-set slots places k held avoid.1) ∙ get_or-set_other (taken_from slots places) k place.slot held None avoid.0 ∙ own.1,
  own.2,
  own.3,
  own-set slots places k held avoid.1 own.4,
)

-- an empty place gets a reservation
module _ (slots : Slots) (new : KeptPlace) where
  pub taken-reserve : (places : KeptPlaces) (r : ℕ) → place_at places r ≡ None → r < length places → Avoid new.slot places
      → taken_from slots (set places r (Some new)) ≡ set (taken_from slots places) new.slot (Some new.product)
  taken-reserve [] r none inside avoid = absurd (omega arith)
  taken-reserve (None ∷ places) zero none inside avoid = refl
  taken-reserve (Some place ∷ places) zero none inside avoid = absurd cc
  taken-reserve (None ∷ places) (suc r) none inside avoid = taken-reserve places r none (omega arith) avoid
  taken-reserve (Some place ∷ places) (suc r) none inside avoid =
      ap (λ (s : Slots). set s place.slot (Some place.product)) (taken-reserve places r none (omega arith) avoid.1)
      ∙ set_comm (taken_from slots places) new.slot place.slot (Some new.product) (Some place.product) (λ e. avoid.0 (sym e))

  pub own-reserve : (places : KeptPlaces) (r : ℕ) → place_at places r ≡ None → r < length places → HaveOwn slots places → new.slot < length slots → row_at (taken_from slots places) new.slot ≡ None
      → new.product.number ≡ 0 → new.product.time ≡ 0 → HaveOwn slots (set places r (Some new))
  own-reserve [] r none inside own within free number time = absurd (omega arith)
  own-reserve (None ∷ places) zero none inside own within free number time = (within, free, number, time, own)
  own-reserve (Some place ∷ places) zero none inside own within free number time = absurd cc
  own-reserve (None ∷ places) (suc r) none inside own within free number time = own-reserve places r none (omega arith) own within free number time
  own-reserve (Some place ∷ places) (suc r) none inside own within free number time =
      let avoid = avoid_free slots (Some place ∷ places) new.slot own free in
      let before = sym (get_or-set_other (taken_from slots places) place.slot new.slot (Some place.product) None (λ e. avoid.0 (sym e))) ∙ free in (
        own.0,
        ap (λ (s : Slots). row_at s place.slot) (taken-reserve places r none (omega arith) avoid.1) ∙ get_or-set_other (taken_from slots places) new.slot place.slot (Some new.product) None avoid.0
            ∙ own.1,
        own.2,
        own.3,
        own-reserve places r none (omega arith) own.4 within before number time,
      )

-- the reservation of a place
module _ (slots : Slots) (q : KeptPlace) where
  -- its slot has its product
  pub place_taken : (places : KeptPlaces) (r : ℕ) → HaveOwn slots places → place_at places r ≡ Some q → row_at (taken_from slots places) q.slot ≡ Some q.product
  place_taken [] r own at = absurd cc
  place_taken (None ∷ places) zero own at = absurd cc
  place_taken (Some place ∷ places) zero own at =
      let same : place ≡ q = cc in
      subst (λ (x : KeptPlace). row_at (set (taken_from slots places) place.slot (Some place.product)) x.slot ≡ Some x.product) same (given slots places place own.0)
  place_taken (None ∷ places) (suc r) own at = place_taken places r own at
  place_taken (Some place ∷ places) (suc r) own at =
      let rest = place_taken places r own.4 at in
      get_or-set_other (taken_from slots places) place.slot q.slot (Some place.product) None (other_than (taken_from slots places) place.slot q.slot q.product own.1 rest) ∙ rest

  -- no product has it
  pub place_apart : (places : KeptPlaces) (r : ℕ) → HaveOwn slots places → place_at places r ≡ Some q → row_at slots q.slot ≡ None
  place_apart [] r own at = absurd cc
  place_apart (None ∷ places) zero own at = absurd cc
  place_apart (Some place ∷ places) zero own at =
      let same : place ≡ q = cc in
      subst (λ (x : KeptPlace). row_at slots x.slot ≡ None) same (free-kept slots places place.slot own.4 own.1)
  place_apart (None ∷ places) (suc r) own at = place_apart places r own at
  place_apart (Some place ∷ places) (suc r) own at = place_apart places r own.4 at

  pub place_within : (places : KeptPlaces) (r : ℕ) → HaveOwn slots places → place_at places r ≡ Some q → q.slot < length slots
  place_within [] r own at = absurd cc
  place_within (None ∷ places) zero own at = absurd cc
  place_within (Some place ∷ places) zero own at = let same : place ≡ q = cc in subst (λ (x : KeptPlace). x.slot < length slots) same own.0
  place_within (None ∷ places) (suc r) own at = place_within places r own at
  place_within (Some place ∷ places) (suc r) own at = place_within places r own.4 at

  -- once it has ended, no reservation has its slot
  pub avoid_others : (places : KeptPlaces) (r : ℕ) → HaveOwn slots places → place_at places r ≡ Some q → Avoid q.slot (set places r None)
  avoid_others [] r own at = absurd cc
  avoid_others (None ∷ places) zero own at = absurd cc
  avoid_others (Some place ∷ places) zero own at = let same : place ≡ q = cc in subst (λ (x : KeptPlace). Avoid x.slot places) same (avoid_free slots places place.slot own.4 own.1)
  avoid_others (None ∷ places) (suc r) own at = avoid_others places r own at
  avoid_others (Some place ∷ places) (suc r) own at =
      (λ e. other_than (taken_from slots places) place.slot q.slot q.product own.1 (place_taken places r own.4 at) (sym e), avoid_others places r own.4 at)

  -- and its slot is not taken
  pub taken-ended : (places : KeptPlaces) (r : ℕ) → HaveOwn slots places → place_at places r ≡ Some q → taken_from slots (set places r None) ≡ set (taken_from slots places) q.slot None
  taken-ended [] r own at = absurd cc
  taken-ended (None ∷ places) zero own at = absurd cc
  taken-ended (Some place ∷ places) zero own at =
      let same : place ≡ q = cc in
      let before = taken_from slots places in
      subst (λ (x : KeptPlace). before ≡ set (set before place.slot (Some place.product)) x.slot None) same
      (sym (set-set before place.slot (Some place.product) None ∙ ap (λ (o : Option Kept). set before place.slot o) (sym own.1) ∙ set-get_or before place.slot None))
  taken-ended (None ∷ places) (suc r) own at = taken-ended places r own at
  taken-ended (Some place ∷ places) (suc r) own at =
      ap (λ (s : Slots). set s place.slot (Some place.product)) (taken-ended places r own.4 at)
      ∙ set_comm (taken_from slots places) q.slot place.slot None (Some place.product) (other_than (taken_from slots places) place.slot q.slot q.product own.1 (place_taken places r own.4 at))

  pub own-ended : (places : KeptPlaces) (r : ℕ) → HaveOwn slots places → place_at places r ≡ Some q → HaveOwn slots (set places r None)
  own-ended [] r own at = absurd cc
  own-ended (None ∷ places) zero own at = absurd cc
  own-ended (Some place ∷ places) zero own at = own.4
  own-ended (None ∷ places) (suc r) own at = own-ended places r own at
  own-ended (Some place ∷ places) (suc r) own at =
      let apart = other_than (taken_from slots places) place.slot q.slot q.product own.1 (place_taken places r own.4 at) in (
        own.0,
        ap (λ (s : Slots). row_at s place.slot) (taken-ended places r own.4 at) ∙ get_or-set_other (taken_from slots places) q.slot place.slot None None (λ e. apart (sym e)) ∙ own.1,
        own.2,
        own.3,
        own-ended places r own.4 at,
      )

  -- bytes that are filled in change neither its slot nor its product
  pub taken-filled : (places : KeptPlaces) (r filled : ℕ) → place_at places r ≡ Some q → taken_from slots (set places r (Some (record q { filled = filled }))) ≡ taken_from slots places
  taken-filled [] r filled at = absurd cc
  taken-filled (None ∷ places) zero filled at = absurd cc
  taken-filled (Some place ∷ places) zero filled at =
      let same : q ≡ place = cc in
      ap (λ (x : KeptPlace). set (taken_from slots places) x.slot (Some x.product)) same
  taken-filled (None ∷ places) (suc r) filled at = taken-filled places r filled at
  taken-filled (Some place ∷ places) (suc r) filled at = ap (λ (s : Slots). set s place.slot (Some place.product)) (taken-filled places r filled at)

  pub own-filled : (places : KeptPlaces) (r filled : ℕ) → HaveOwn slots places → place_at places r ≡ Some q → HaveOwn slots (set places r (Some (record q { filled = filled })))
  own-filled [] r filled own at = absurd cc
  own-filled (None ∷ places) zero filled own at = absurd cc
  own-filled (Some place ∷ places) zero filled own at =
      let same : place ≡ q = cc in
      subst (λ (x : KeptPlace). (x.slot < length slots) × (row_at (taken_from slots places) x.slot ≡ None) × (x.product.number ≡ 0) × (x.product.time ≡ 0) × HaveOwn slots places) same own
  own-filled (None ∷ places) (suc r) filled own at = own-filled places r filled own at
  own-filled (Some place ∷ places) (suc r) filled own at =
      (own.0, ap (λ (s : Slots). row_at s place.slot) (taken-filled places r filled at) ∙ own.1, own.2, own.3, own-filled places r filled own.4 at)

-- what entries have is what they had, where a slot gets a product that had none
at-more : (slots : Slots) (j : ℕ) (new : Kept) → row_at slots j ≡ None → (es : List Queued) → AllByRecursion (IsAt slots) es → AllByRecursion (IsAt (set slots j (Some new))) es
at-more slots j new none [] all = tt
at-more slots j new none (e ∷ es) all =
    let is = all.0 in
    ((is.0, get_or-set_other slots j e.slot (Some new) None (other_than slots j e.slot is.0 none is.1) ∙ is.1, is.2, is.3), at-more slots j new none es all.1)

entries-more : (slots : Slots) (j : ℕ) (new : Kept) → row_at slots j ≡ None → (es : List Queued) → AllByRecursion (IsAt slots) es → kept_entries (set slots j (Some new)) es ≡ kept_entries slots es
entries-more slots j new none [] all = refl
entries-more slots j new none (e ∷ es) all =
    let is = all.0 in
    let held = get_or-set_other slots j e.slot (Some new) None (other_than slots j e.slot is.0 none is.1) in
    λ i. with_entry e (held i) ∷ entries-more slots j new none es all.1 i

-- the entry of each open reservation has its slot with its product
pub at-places : (slots : Slots) (places : KeptPlaces) → HaveOwn slots places → AllByRecursion (IsAt (taken_from slots places)) (place_entries places)
at-places slots [] own = tt
at-places slots (None ∷ places) own = at-places slots places own
at-places slots (Some place ∷ places) own =
    ((place.product, given slots places place own.0, own.2, own.3), at-more (taken_from slots places) place.slot place.product own.1 (place_entries places) (at-places slots places own.4))

-- and its region is reserved
pub regions-places : (slots : Slots) (places : KeptPlaces) → HaveOwn slots places
    → map kept_region (kept_entries (taken_from slots places) (place_entries places)) ≡ map reserved_region (open_kept (reservations_of places))
regions-places slots [] own = refl
regions-places slots (None ∷ places) own = regions-places slots places own
regions-places slots (Some place ∷ places) own =
    let entry : Queued = record { n = 0; time = 0; slot = place.slot } in
    let here = given slots places place own.0 in
    let rest =
    ap (λ (ks : List Kept). map kept_region ks) (entries-more (taken_from slots places) place.slot place.product own.1 (place_entries places) (at-places slots places own.4))
    ∙ regions-places slots places own.4 in
    λ i. kept_region (with_entry entry (here i)) ∷ rest i

-- the entries of products have their slots with their products
pub at-kept : (slots : Slots) (places : KeptPlaces) → HaveOwn slots places → (es : List Queued) → AllByRecursion (IsAt slots) es → AllByRecursion (IsAt (taken_from slots places)) es
at-kept slots places own [] all = tt
at-kept slots places own (e ∷ es) all =
    let is = all.0 in
    ((is.0, taken-kept slots places e.slot is.0 own is.1, is.2, is.3), at-kept slots places own es all.1)

pub entries-kept : (slots : Slots) (places : KeptPlaces) → HaveOwn slots places → (es : List Queued) → AllByRecursion (IsAt slots) es
    → kept_entries (taken_from slots places) es ≡ kept_entries slots es
entries-kept slots places own [] all = refl
entries-kept slots places own (e ∷ es) all =
    let is = all.0 in
    let held = taken-kept slots places e.slot is.0 own is.1 ∙ sym is.1 in
    λ i. with_entry e (held i) ∷ entries-kept slots places own es all.1 i

-- a slot that is taken is that of a product or of a reservation
pub listed-taken : (slots : Slots) (places : KeptPlaces) (k : ℕ) (row : Kept) → row_at (taken_from slots places) k ≡ Some row → (row_at slots k ≡ Some row) ⊎ HasSlot k (place_entries places)
listed-taken slots [] k row at = inl at
listed-taken slots (None ∷ places) k row at = listed-taken slots places k row at
listed-taken slots (Some place ∷ places) k row at = elim (cases_eq k place.slot) [
  | inl same ↦ inr (inl (sym same))
  | inr apart ↦
      elim (listed-taken slots places k row (sym (get_or-set_other (taken_from slots places) place.slot k (Some place.product) None apart) ∙ at)) [ inl kept ↦ inl kept | inr there ↦ inr (inr there) ]
]

-- a slot is that of an entry among the first, or among the others
pub has-front : (k : ℕ) (xs ys : List Queued) → HasSlot k xs → HasSlot k (xs ++ ys)
has-front k [] ys has = absurd has
has-front k (x ∷ xs) ys (inl here) = inl here
has-front k (x ∷ xs) ys (inr there) = inr (has-front k xs ys there)

pub has-behind : (k : ℕ) (xs ys : List Queued) → HasSlot k ys → HasSlot k (xs ++ ys)
has-behind k [] ys has = has
has-behind k (x ∷ xs) ys has = inr (has-behind k xs ys has)

-- entries have different slots
abbrev pub HaveSlots : List Queued → Type 0
HaveSlots [] = Unit {0}
HaveSlots (e ∷ es) = AllByRecursion (λ (o : Queued). e.slot ≢ o.slot) es × HaveSlots es

-- a slot that is not that of a reservation
avoid-entries : (k : ℕ) (places : KeptPlaces) → Avoid k places → AllByRecursion (λ (o : Queued). k ≢ o.slot) (place_entries places)
avoid-entries k [] avoid = tt
avoid-entries k (None ∷ places) avoid = avoid-entries k places avoid
avoid-entries k (Some place ∷ places) avoid = ((λ e. avoid.0 (sym e)), avoid-entries k places avoid.1)

slots-places : (slots : Slots) (places : KeptPlaces) → HaveOwn slots places → HaveSlots (place_entries places)
slots-places slots [] own = tt
slots-places slots (None ∷ places) own = slots-places slots places own
slots-places slots (Some place ∷ places) own = (avoid-entries place.slot places (avoid_free slots places place.slot own.4 own.1), slots-places slots places own.4)

all_of : (P : Queued → Type 0) (xs ys : List Queued) → AllByRecursion P xs → AllByRecursion P ys → AllByRecursion P (xs ++ ys)
all_of P [] ys one other = other
all_of P (x ∷ xs) ys one other = (one.0, all_of P xs ys one.1 other)

-- those of products and of reservations
pub slots-all : (slots : Slots) (places : KeptPlaces) → HaveOwn slots places → (es : List Queued) → AllByRecursion (IsAt slots) es → HaveSlots es → HaveSlots (es ++ place_entries places)
slots-all slots places own [] all have = slots-places slots places own
slots-all slots places own (e ∷ es) all have =
    let is = all.0 in
    let others = avoid-entries e.slot places (avoid_kept slots places e.slot is.0 own is.1) in
    (all_of (λ (o : Queued). e.slot ≢ o.slot) es (place_entries places) have.0 others, slots-all slots places own es all.1 have.1)

pub at-all : (slots : Slots) (places : KeptPlaces) → HaveOwn slots places → (es : List Queued) → AllByRecursion (IsAt slots) es
    → AllByRecursion (IsAt (taken_from slots places)) (es ++ place_entries places)
at-all slots places own es all = all_of (IsAt (taken_from slots places)) es (place_entries places) (at-kept slots places own es all) (at-places slots places own)
