-- A product can be put in at a place where its region is free and no slot has its signature.
use Rattle.std.proofs.Common.{◌≡◌, ◌≢◌, ℕ, ◌+◌, ◌<◌, ◌≤◌, true, false, inl, inr, ⊎_elim, List, [], ◌∷◌, map, Option, Some, None, refl, sym, ap, subst, ◌∙◌, arith}
use Rattle.std.specs.Prelude.{is_some}
use Rattle.std.specs.List.{AllByRecursion}
use Rattle.std.specs.Option.{option_map}
use Rattle.std.proofs.lemmas.Option.{none-some}
use Rattle.ldm_types.specs.Arena.{Region, AreApart}
use Rattle.ldm_regions.specs.Layout.{IsFree}
use Rattle.ldm_sigindex.specs.Index.{Table, IsOneToOne, slot_of}
use Rattle.ldm_timeindex.specs.Times.{Queued, Precedes, IsRising}
use Rattle.ldm_book.specs.declared.products.Products.TheInside.{Inside}
use Rattle.ldm_book.specs.View.{Kept}
use Rattle.ldm_book.specs.Products.{kept_region, occupied_in}
use Rattle.ldm_book.specs.Restoring.{IsPlaceable, SignaturesDiffer, TimesAreRising}
use Rattle.ldm_book.specs.Slots.{Slots, row_at, slots_of, signature_of, kept_or_none, kept_entry, kept_entries, products_of, IsAt, HasSlot, IsSlotted}
use Rattle.ldm_book.proofs.AllEntriesLemmas.{all_entries, all_taken, all-at, all-listed, all-regions}
use Rattle.ldm_book.proofs.FindLemmas.{absent_kept, same_row}
use Rattle.ldm_book.proofs.KeptEntryLemmas.{absent_from_slots, kept_entry-row, row_of_region}

turned : (one other : Region) → AreApart one other → AreApart other one
turned one other (inl before) = inr before
turned one other (inr behind) = inl behind

module _ (p : Inside) (kept : IsSlotted p) (region : Region) where
  abbrev Beside : Region → Type 0
  Beside other = AreApart other region

  -- a free region lies apart from that of each entry
  free_entries : IsFree region p.regions → (entries : List Queued) → AllByRecursion (IsAt (all_taken p)) entries → AllByRecursion Beside (map kept_region (kept_entries (all_taken p) entries))
  free_entries free [] all = tt
  free_entries free (entry ∷ entries) all =
      let at = all.0 in
      let owned = kept.owned entry.slot ∙ ap (option_map kept_region) at.1 in
      let apart : Beside (kept_region at.0) = turned region (kept_region at.0) (free.apart entry.slot (kept_region at.0) owned) in
      (subst Beside (ap kept_region (sym (kept_entry-row (all_taken p) entry at.0 at.1))) apart, free_entries free entries all.1)

  pub free_all : IsFree region p.regions → AllByRecursion Beside (occupied_in (products_of p))
  free_all free = subst (AllByRecursion Beside) (all-regions p kept) (free_entries free (all_entries p) (all-at p kept))

  -- the region of a slot lies apart, where that of each entry does
  entry_apart : (entries : List Queued) → AllByRecursion Beside (map kept_region (kept_entries (all_taken p) entries)) → (k : ℕ) (row : Kept) → HasSlot k entries → row_at (all_taken p) k ≡ Some row
      → Beside (kept_region row)
  entry_apart [] all k row has is = absurd has
  entry_apart (entry ∷ entries) all k row has is =
      ⊎_elim
      (λ same. subst Beside (ap kept_region (kept_entry-row (all_taken p) entry row (ap (row_at (all_taken p)) same ∙ is))) all.0)
      (λ there. entry_apart entries all.1 k row there is) has

  pub free_from : region.start + region.extent ≤ p.regions.arena → AllByRecursion Beside (occupied_in (products_of p)) → IsFree region p.regions
  free_from within all = record {
    within = within;
    apart = λ owner taken at.
        let row = row_of_region (row_at (all_taken p) owner) taken (sym (kept.owned owner) ∙ at) in
        let beside : Beside (kept_region row.0) =
        entry_apart (all_entries p) (subst (AllByRecursion Beside) (sym (all-regions p kept)) all) owner row.0 (all-listed p kept owner row.0 row.1) row.1 in
        subst (AreApart region) row.2 (turned (kept_region row.0) region beside);
  }

module _ (p : Inside) (kept : IsSlotted p) (k : Kept) where
  pub placeable : IsFree (kept_region k) p.regions → None ≡ slot_of p.by_signature k.signature → IsPlaceable (products_of p) k
  placeable free none = record {
    within = free.within;
    apart = free_all p kept (kept_region k) free;
    absent = absent_kept (slots_of p) k.signature p.by_number.entries (none ∙ ap (λ (t : Table). slot_of t k.signature) kept.signatures) kept.entries;
  }

  pub not_there : (slot : ℕ) → Some slot ≡ slot_of p.by_signature k.signature → IsPlaceable (products_of p) k → ⊥
  not_there slot found is =
      none-some slot
      (sym (absent_from_slots (slots_of p) p.by_number.entries k.signature kept.listed is.absent) ∙ sym (found ∙ ap (λ (t : Table). slot_of t k.signature) kept.signatures))

  pub not_free : (IsFree (kept_region k) p.regions → ⊥) → IsPlaceable (products_of p) k → ⊥
  not_free taken is = taken (free_from p kept (kept_region k) is.within is.apart)

-- what is found, or not
pub none_found : (o : Option ℕ) → is_some o ≡ false → o ≡ None
none_found None e = refl
none_found (Some k) e = absurd cc

pub some_found : (o : Option ℕ) → is_some o ≡ true → (k : ℕ) × (o ≡ Some k)
some_found None e = absurd cc
some_found (Some k) e = (k, refl)

-- the times of the kept rows rise
later_kept : (slots : Slots) (entry : Queued) (entries : List Queued) → AllByRecursion (Precedes entry) entries → AllByRecursion (λ (k : Kept). entry.time < k.time) (kept_entries slots entries)
later_kept slots entry [] before = tt
later_kept slots entry (other ∷ entries) before = (before.0.1, later_kept slots entry entries before.1)

pub times_kept : (slots : Slots) (entries : List Queued) → IsRising entries → TimesAreRising (kept_entries slots entries)
times_kept slots [] rising = tt
times_kept slots (entry ∷ entries) rising = (later_kept slots entry entries rising.0, times_kept slots entries rising.1)

-- and their signatures differ
module _ (slots : Slots) (once : IsOneToOne (map signature_of slots)) where
  signature_kept : (entry : Queued) (at : IsAt slots entry) → (kept_entry slots entry).signature ≡ at.0.signature
  signature_kept entry at = ap (λ (o : Option Kept). (kept_or_none o).signature) at.1

  others_kept : (entry : Queued) → IsAt slots entry → (entries : List Queued) → AllByRecursion (IsAt slots) entries → AllByRecursion (Precedes entry) entries
      → AllByRecursion (λ (other : Kept). other.signature ≢ (kept_entry slots entry).signature) (kept_entries slots entries)
  others_kept entry at [] all before = tt
  others_kept entry at (other ∷ entries) all before =
      let there = all.0 in
      let below = before.0.0 in (
        λ same.
            let one = same_row slots other.slot entry.slot there.0 at.0 once there.1 at.1 (sym (signature_kept other there) ∙ same ∙ signature_kept entry at) in
            let number = ap (λ (k : Kept). k.number) one in
            omega (arith, number, below, there.2, at.2),
        others_kept entry at entries all.1 before.1,
      )

  pub signatures_kept : (entries : List Queued) → AllByRecursion (IsAt slots) entries → IsRising entries → SignaturesDiffer (kept_entries slots entries)
  signatures_kept [] all rising = tt
  signatures_kept (entry ∷ entries) all rising = (others_kept entry all.0 entries all.1 rising.0, signatures_kept entries all.1 rising.1)
