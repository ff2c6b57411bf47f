-- No two products or reservations share a position.
use Rattle.std.proofs.Common.{◌≡◌, ◌≢◌, ◌+◌, ◌≤◌, List, [], ◌∷◌, map, Some, sym, ap, subst, ◌∙◌}
use Rattle.std.specs.List.{AllByRecursion}
use Rattle.std.specs.FinMap as fin
use Rattle.std.specs.Option.{option_map}
use Rattle.ldm_types.specs.Arena.{Region, AreApart}
use Rattle.ldm_timeindex.specs.Times.{Queued}
use Rattle.ldm_book.specs.declared.products.Products.TheInside.{Inside}
use Rattle.ldm_book.specs.Products.{kept_region, LieApart, occupied_in}
use Rattle.ldm_book.specs.Slots.{kept_entry, kept_entries, products_of, IsAt, IsSlotted}
use Rattle.ldm_book.proofs.KeptEntryLemmas.{kept_entry-row}
use Rattle.ldm_book.proofs.TakenLemmas.{HaveSlots}
use Rattle.ldm_book.proofs.AllEntriesLemmas.{all_entries, all_taken, all-apart, all-at, all-regions}

module _ (p : Inside) (kept : IsSlotted p) where
  -- the region of an entry is that of the product of its slot, which the slot owns
  region_at : (entry : Queued) (at : IsAt (all_taken p) entry) → kept_region at.0 ≡ kept_region (kept_entry (all_taken p) entry)
  region_at entry at = ap kept_region (sym (kept_entry-row (all_taken p) entry at.0 at.1))

  owned_at : (entry : Queued) (at : IsAt (all_taken p) entry) → fin.get p.regions.owned entry.slot ≡ Some (kept_region at.0)
  owned_at entry at = kept.owned entry.slot ∙ ap (option_map kept_region) at.1

  -- entries of different slots lie apart
  apart_from : (entry : Queued) → IsAt (all_taken p) entry → (entries : List Queued) → AllByRecursion (IsAt (all_taken p)) entries → AllByRecursion (λ (o : Queued). entry.slot ≢ o.slot) entries
      → AllByRecursion (λ other. AreApart (kept_region (kept_entry (all_taken p) entry)) other) (map kept_region (kept_entries (all_taken p) entries))
  apart_from entry at [] all others = tt
  apart_from entry at (other ∷ entries) all others =
      let there = all.0 in
      let apart = kept.tiles.apart entry.slot other.slot (kept_region at.0) (kept_region there.0) others.0 (owned_at entry at) (owned_at other there) in (
        subst (λ (one : Region). AreApart one (kept_region (kept_entry (all_taken p) other))) (region_at entry at) (subst (AreApart (kept_region at.0)) (region_at other there) apart),
        apart_from entry at entries all.1 others.1,
      )

  entries_apart : (entries : List Queued) → AllByRecursion (IsAt (all_taken p)) entries → HaveSlots entries → LieApart p.regions.arena (map kept_region (kept_entries (all_taken p) entries))
  entries_apart [] all have = tt
  entries_apart (entry ∷ entries) all have =
      let at = all.0 in (
        subst (λ (one : Region). one.start + one.extent ≤ p.regions.arena) (region_at entry at) (kept.tiles.within entry.slot (kept_region at.0) (owned_at entry at)),
        apart_from entry at entries all.1 have.0,
        entries_apart entries all.1 have.1,
      )

-- what occupies the arena lies apart
pub lie_apart : (p : Inside) → IsSlotted p → LieApart p.regions.arena (occupied_in (products_of p))
lie_apart p kept = subst (λ (regions : List Region). LieApart p.regions.arena regions) (all-regions p kept) (entries_apart p kept (all_entries p) (all-at p kept) (all-apart p kept))
