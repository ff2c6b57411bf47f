-- One more product: the slots with its row, and the entries with its own.
use Rattle.std.proofs.Common.{◌≡◌, ◌≢◌, ℕ, suc, ◌+◌, ◌*◌, ◌<◌, ◌≤◌, inl, inr, ⊎_elim, cond, List, [], ◌∷◌, ◌++◌, length, map}
use Rattle.std.proofs.Common.{set, Option, Some, None, refl, sym, ap, subst, ◌∙◌, arith, get_or-set_other, get_or-set_same}
use Rattle.std.specs.Cmp.{nat_cmp_total, eq_by_cmp_equiv}
use Rattle.std.specs.FinMap as fin
use Rattle.std.specs.List.{AllByRecursion}
use Rattle.std.specs.Option.{option_map}
use Rattle.std.proofs.lemmas.Bool.{cases_eq}
use Rattle.std.proofs.lemmas.List.{length-append, map_push}
use Rattle.ldm_types.specs.Arena.{Region}
use Rattle.ldm_types.specs.declared.limits.TheConstants.{LARGEST_ARENA}
use Rattle.ldm_model.specs.Stat.{extents}
use Rattle.ldm_regions.specs.Layout.{Layout, Tiles, with_region}
use Rattle.ldm_timeindex.specs.Times.{Queued}
use Rattle.ldm_book.specs.declared.products.Products.TheInside.{Inside}
use Rattle.ldm_book.specs.View.{Kept, Reservations, open_kept}
use Rattle.ldm_book.specs.Products.{kept_extent, kept_region, occupied_by, reserved_region}
use Rattle.ldm_book.specs.Reserved.{KeptPlaces, place_entries, reservations_of}
use Rattle.ldm_book.specs.Slots.{Slots, row_at, slots_of, kept_or_none, with_entry, kept_entry, kept_entries, IsAt, HasSlot, IsSlotted}
use Rattle.ldm_book.proofs.KeptEntryLemmas.{kept_entry-row}
use Rattle.ldm_book.proofs.AllEntriesLemmas.{all_entries, all_taken, all-at, all-regions}
use Rattle.ldm_book.proofs.OpenPlacesLemmas.{extents-append}

-- a slot of an entry is still one with one more entry
HasSlot-more : (k : ℕ) (entries : List Queued) (entry : Queued) → HasSlot k entries → HasSlot k (entries ++ entry ∷ [])
HasSlot-more k [] entry has = absurd has
HasSlot-more k (first ∷ entries) entry has = ⊎_elim (λ here. inl here) (λ there. inr (HasSlot-more k entries entry there)) has

-- the slot of the last entry
HasSlot-last : (entries : List Queued) (entry : Queued) → HasSlot entry.slot (entries ++ entry ∷ [])
HasSlot-last [] entry = inl refl
HasSlot-last (first ∷ entries) entry = inr (HasSlot-last entries entry)

-- the entry of a row
abbrev pub entry_of : ℕ → Kept → Queued
entry_of slot row = record { n = row.number; time = row.time; slot = slot }

module _ (p : Inside) (kept : IsSlotted p) (slot : ℕ) (row : Kept) (inside : slot < length (slots_of p)) (none : row_at (slots_of p) slot ≡ None) where
  abbrev slots : Slots
  slots = slots_of p

  abbrev filled : Slots
  filled = set slots slot (Some row)

  abbrev more : List Queued → List Queued
  more entries = entries ++ entry_of slot row ∷ []

  -- the slot has the row
  here : row_at filled slot ≡ Some row
  here = get_or-set_same slots slot (Some row) None inside

  -- the other slots are as they were
  other : (k : ℕ) → k ≢ slot → row_at filled k ≡ row_at slots k
  other k apart = get_or-set_other slots slot k (Some row) None apart

  -- a slot with a row keeps it
  stays : (k : ℕ) (held : Kept) → row_at slots k ≡ Some held → row_at filled k ≡ row_at slots k
  stays k held at = other k (λ same. let both : None ≡ Some held = sym none ∙ ap (row_at slots) (sym same) ∙ at in absurd cc)

  -- the entries are kept as they were
  kept-same : (entries : List Queued) → AllByRecursion (IsAt slots) entries → kept_entries filled entries ≡ kept_entries slots entries
  kept-same [] at = refl
  kept-same (entry ∷ entries) at =
      let held = stays entry.slot at.0.0 at.0.1 in
      λ i. with_entry entry (held i) ∷ kept-same entries at.1 i

  -- each has a slot with its row, and the new one too
  at-more : (entries : List Queued) → AllByRecursion (IsAt slots) entries → AllByRecursion (IsAt filled) (more entries)
  at-more [] at = ((row, here, refl, refl), tt)
  at-more (entry ∷ entries) at = ((at.0.0, stays entry.slot at.0.0 at.0.1 ∙ at.0.1, at.0.2, at.0.3), at-more entries at.1)

  abbrev rows : List Kept
  rows = kept_entries slots p.by_number.entries

  -- the kept rows are those from before, and the new one
  pub rows-added : kept_entries filled (more p.by_number.entries) ≡ rows ++ row ∷ []
  rows-added =
      let new = kept_entry-row filled (entry_of slot row) row here in
      map_push (kept_entry filled) p.by_number.entries (entry_of slot row) ∙ (λ i. kept-same p.by_number.entries kept.entries i ++ new i ∷ [])

  -- and so are the extents
  pub extents-added : (reservations : Reservations) → extents (occupied_by (kept_entries filled (more p.by_number.entries)) reservations) ≡ extents (occupied_by rows reservations) + kept_extent row
  extents-added reservations =
      let reserved = map reserved_region (open_kept reservations) in
      let front = ap (λ (rows : List Kept). extents (map kept_region rows)) rows-added ∙ ap extents (map_push kept_region rows row) ∙ extents-append (map kept_region rows) (kept_region row ∷ []) in
      omega (arith, front, extents-append (map kept_region (kept_entries filled (more p.by_number.entries))) reserved, extents-append (map kept_region rows) reserved)

  -- each entry has a slot with its row
  pub entries-added : AllByRecursion (IsAt filled) (more p.by_number.entries)
  entries-added = at-more p.by_number.entries kept.entries

  -- each row has an entry
  pub listed-added : (k : ℕ) (held : Kept) → row_at filled k ≡ Some held → HasSlot k (more p.by_number.entries)
  listed-added k held at =
      elim (cases_eq k slot) [
        | inl same ↦ subst (λ j. HasSlot j (more p.by_number.entries)) (sym same) (HasSlot-last p.by_number.entries (entry_of slot row))
        | inr apart ↦ HasSlot-more k p.by_number.entries (entry_of slot row) (kept.listed k held (sym (other k apart) ∙ at))
      ]

module _ (p : Inside) (kept : IsSlotted p) where
  -- each extent is at most the arena's
  extents-within : (entries : List Queued) → AllByRecursion (IsAt (all_taken p)) entries → extents (map kept_region (kept_entries (all_taken p) entries)) ≤ length entries * LARGEST_ARENA
  extents-within [] at = omega arith
  extents-within (entry ∷ entries) at =
      let rest = extents-within entries at.1 in
      let within = kept.tiles.within entry.slot (kept_region at.0.0) (kept.owned entry.slot ∙ ap (option_map kept_region) at.0.1) in
      let extent = ap (λ (held : Option Kept). kept_extent (kept_or_none held)) at.0.1 in
      bounded (kept_extent (kept_or_none (row_at (all_taken p) entry.slot))) (kept_extent at.0.0) at.0.0.place (extents (map kept_region (kept_entries (all_taken p) entries)))
      (length entries) p.regions.arena extent within kept.small rest
    where
      bounded : (one extent place rest count arena : ℕ) → one ≡ extent → place + extent ≤ arena → arena ≤ LARGEST_ARENA → rest ≤ count * LARGEST_ARENA → one + rest ≤ suc count * LARGEST_ARENA
      bounded one extent place rest count arena same within small below = omega arith

  -- as many entries as slots are taken
  length-places : (places : KeptPlaces) → length (place_entries places) ≡ length (open_kept (reservations_of places))
  length-places [] = refl
  length-places (None ∷ places) = length-places places
  length-places (Some place ∷ places) = ap suc (length-places places)

  -- the sum of the extents is at most the greatest arena for each slot that is taken
  pub used-within : p.used ≤ (length p.by_number.entries + length (open_kept (reservations_of p.reserved))) * LARGEST_ARENA
  used-within =
      let count : length (all_entries p) ≡ length p.by_number.entries + length (open_kept (reservations_of p.reserved)) =
      omega (arith, length-append p.by_number.entries (place_entries p.reserved), length-places p.reserved) in
      let all = extents-within (all_entries p) (all-at p kept) in
      let used : p.used ≡ extents (map kept_region (kept_entries (all_taken p) (all_entries p))) = kept.used ∙ ap extents (sym (all-regions p kept)) in
      subst (λ (n : ℕ). p.used ≤ n * LARGEST_ARENA) count (omega (arith, used, all))

-- a region that was taken lies in the arena
pub taken_within : (layout : Layout) (owner : ℕ) (region : Region) → Tiles (with_region layout owner region) → region.start + region.extent ≤ layout.arena
taken_within layout owner region tiles =
    tiles.within owner region
    (fin.get-insert nat_cmp_total layout.owned owner region owner ∙ ap (λ b. cond b (Some region) (fin.get layout.owned owner)) ((eq_by_cmp_equiv nat_cmp_total).refl owner))
