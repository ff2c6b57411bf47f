-- The entries of all slots that are taken: those of the products, and behind them those of the open reservations.
use Rattle.std.proofs.Common.{◌≡◌, ◌≢◌, ℕ, List, [], ◌∷◌, ◌++◌, map, Some, ap, ◌∙◌, inl, inr, arith}
use Rattle.std.specs.List.{AllByRecursion}
use Rattle.std.proofs.lemmas.List.{map-append}
use Rattle.ldm_timeindex.specs.Times.{Queued, Precedes, IsRising}
use Rattle.ldm_book.specs.declared.products.Products.TheInside.{Inside}
use Rattle.ldm_book.specs.View.{Kept}
use Rattle.ldm_book.specs.Products.{kept_region, occupied_in}
use Rattle.ldm_book.specs.Reserved.{place_entries}
use Rattle.ldm_book.specs.Slots.{Slots, row_at, slots_of, kept_entry, kept_entries, products_of, IsAt, HasSlot, IsSlotted, taken_from}
use Rattle.ldm_book.proofs.KeptEntryLemmas.{other_slot}
use Rattle.ldm_book.proofs.TakenLemmas.{HaveSlots, at-all, entries-kept, has-behind, has-front, listed-taken, regions-places, slots-all}

-- the product of each slot that is taken, and the entries of these
abbrev pub all_taken : Inside → Slots
all_taken p = taken_from (slots_of p) p.reserved

abbrev pub all_entries : Inside → List Queued
all_entries p = p.by_number.entries ++ place_entries p.reserved

module _ (p : Inside) (kept : IsSlotted p) where
  pub all-at : AllByRecursion (IsAt (all_taken p)) (all_entries p)
  all-at = at-all (slots_of p) p.reserved kept.own p.by_number.entries kept.entries

  pub all-listed : (k : ℕ) (row : Kept) → row_at (all_taken p) k ≡ Some row → HasSlot k (all_entries p)
  all-listed k row at = elim (listed-taken (slots_of p) p.reserved k row at) [
    | inl there ↦ has-front k p.by_number.entries (place_entries p.reserved) (kept.listed k row there)
    | inr there ↦ has-behind k p.by_number.entries (place_entries p.reserved) there
  ]

  pub all-regions : map kept_region (kept_entries (all_taken p) (all_entries p)) ≡ occupied_in (products_of p)
  all-regions =
      let taken = all_taken p in
      let front = ap (λ (ks : List Kept). map kept_region ks) (entries-kept (slots_of p) p.reserved kept.own p.by_number.entries kept.entries) in
      let behind = regions-places (slots_of p) p.reserved kept.own in
      ap (λ (ks : List Kept). map kept_region ks) (map-append (kept_entry taken) p.by_number.entries (place_entries p.reserved))
      ∙ map-append kept_region (kept_entries taken p.by_number.entries) (kept_entries taken (place_entries p.reserved))
      ∙ (λ i. front i ++ behind i)

  -- entries of different numbers have different slots
  others_apart : (entry : Queued) → IsAt (slots_of p) entry → (es : List Queued) → AllByRecursion (IsAt (slots_of p)) es → AllByRecursion (Precedes entry) es
      → AllByRecursion (λ (o : Queued). entry.slot ≢ o.slot) es
  others_apart entry at [] all before = tt
  others_apart entry at (other ∷ es) all before =
      let there = all.0 in
      let below = before.0.0 in
      (other_slot (slots_of p) entry.slot other.slot at.0 there.0 at.1 there.1 (λ e. omega (arith, e, below, at.2, there.2)), others_apart entry at es all.1 before.1)

  rising_apart : (es : List Queued) → AllByRecursion (IsAt (slots_of p)) es → IsRising es → HaveSlots es
  rising_apart [] all rising = tt
  rising_apart (entry ∷ es) all rising = (others_apart entry all.0 es all.1 rising.0, rising_apart es all.1 rising.1)

  pub all-apart : HaveSlots (all_entries p)
  all-apart = slots-all (slots_of p) p.reserved kept.own p.by_number.entries kept.entries (rising_apart p.by_number.entries kept.entries kept.rising)
