-- The regions of products and reservations cover what the regions of the slots cover, so the gaps are the same.
use Rattle.std.proofs.Common.{◌≡◌, ℕ, zero, suc, ◌+◌, ◌<◌, length, Bool, true, false, cond, ◌&&◌, T, List, [], ◌∷◌, map, Some, None, arith, refl, sym, ap, ◌∙◌, ⊎_elim}
use Rattle.std.specs.Cmp.{nat_cmp_total, eq_by_cmp_equiv, Equal-is}
use Rattle.std.specs.FinMap as fin
use Rattle.std.specs.FinMap.{find, nat_cmp-IsAntisymmetric}
use Rattle.std.specs.FinMap.Entries.{below_all, is_sorted}
use Rattle.std.specs.List.{AllByRecursion, list_any}
use Rattle.std.specs.Option.{option_map}
use Rattle.std.specs.Ordering.{nat_cmp, eq_by_cmp, is_eq, is_lt}
use Rattle.std.specs.declared.cmp.Ordering.{Ordering}
use Rattle.std.specs.declared.cmp.Ordering.TheVariants.{Less, Equal, Greater}
use Rattle.std.proofs.lemmas.Bool.{lt-ltb, or_cases, or_left, or_right}
use Rattle.std.proofs.lemmas.List.{length-map}
use Rattle.std.proofs.lemmas.Bool.Decides.{same_from_decides}
use Rattle.ldm_types.specs.Arena.{Region, covers, is_covered, with_free, free_runs, gaps, best_gap, fit}
use Rattle.ldm_timeindex.specs.Times.{Queued}
use Rattle.ldm_regions.specs.Layout.{Owned, occupied}
use Rattle.ldm_book.specs.declared.products.Products.TheInside.{Inside}
use Rattle.ldm_book.specs.View.{Kept}
use Rattle.ldm_book.specs.Products.{kept_region, occupied_in, room_for, taken_in}
use Rattle.ldm_book.specs.Slots.{Slots, row_at, slots_of, kept_entry, kept_entries, products_of, IsAt, HasSlot, IsSlotted}
use Rattle.ldm_book.proofs.KeptEntryLemmas.{kept_entry-row, row_of_region}
use Rattle.ldm_book.proofs.AllEntriesLemmas.{all_entries, all_taken, all-at, all-listed, all-regions}

-- only what is covered matters
pub free_runs-same : (one other : List Region) → ((position : ℕ) → is_covered one position ≡ is_covered other position) → (position count : ℕ)
    → free_runs one position count ≡ free_runs other position count
free_runs-same one other same position zero = refl
free_runs-same one other same position (suc count) =
    ap (λ b. cond b (free_runs one (position + 1) count) (with_free position (free_runs one (position + 1) count))) (same position)
    ∙ ap (λ gaps. cond (is_covered other position) gaps (with_free position gaps)) (free_runs-same one other same (position + 1) count)

-- two tests that hold together
parts_of : (a b : Bool) → T (a && b) → T a × T b
parts_of true b h = (tt, h)
parts_of false b h = absurd h

-- a comparison that says below
is_less : (o : Ordering) → T (is_lt o) → o ≡ Less
is_less Less h = refl
is_less Equal h = absurd h
is_less Greater h = absurd h

-- a key below all others is not one of them
not_found : (k : ℕ) (es : List (ℕ × Region)) → T (below_all nat_cmp k es) → find nat_cmp k es ≡ None
not_found k [] h = refl
not_found k (e ∷ es) h =
    let parts = parts_of _ (below_all nat_cmp k es) h in
    ap (λ o. cond (is_eq o) (Some e.1) (find nat_cmp k es)) (is_less (nat_cmp k e.0) parts.0) ∙ not_found k es parts.1

-- a value that passes a test, and its key
abbrev FoundWith : (Region → Bool) → List (ℕ × Region) → Type 0
FoundWith test es = (k : ℕ) × (region : Region) × (find nat_cmp k es ≡ Some region) × (test region ≡ true)

-- a key behind another is found as it was
found_more : (test : Region → Bool) (e : ℕ × Region) (es : List (ℕ × Region)) → T (below_all nat_cmp e.0 es) → FoundWith test es → FoundWith test (e ∷ es)
found_more test e es below found =
    elim (eq_by_cmp nat_cmp found.0 e.0) as (λ b. eq_by_cmp nat_cmp found.0 e.0 ≡ b → FoundWith test (e ∷ es)) [
      | true ↦ λ t.
          let same = nat_cmp-IsAntisymmetric found.0 e.0 ((Equal-is (nat_cmp found.0 e.0)).0 t) in
          let gone : Some found.1 ≡ None = sym found.2 ∙ ap (λ k. find nat_cmp k es) same ∙ not_found e.0 es below in
          absurd cc
      | false ↦ λ f. (found.0, found.1, ap (λ b. cond b (Some e.1) (find nat_cmp found.0 es)) f ∙ found.2, found.3)
    ] refl

-- a value of entries in order has a key
found_from_any : (test : Region → Bool) (es : List (ℕ × Region)) → T (is_sorted nat_cmp es) → list_any test (map (λ (e : ℕ × Region). e.1) es) ≡ true → FoundWith test es
found_from_any test [] sorted any = absurd cc
found_from_any test (e ∷ es) sorted any =
    let parts = parts_of (below_all nat_cmp e.0 es) (is_sorted nat_cmp es) sorted in
    ⊎_elim
    (λ here. (e.0, e.1, ap (λ b. cond b (Some e.1) (find nat_cmp e.0 es)) ((eq_by_cmp_equiv nat_cmp_total).refl e.0), here))
    (λ there. found_more test e es parts.0 (found_from_any test es parts.1 there))
    (or_cases (test e.1) (list_any test (map (λ (e : ℕ × Region). e.1) es)) any)

-- what a key has is one of the values
any_from_found : (test : Region → Bool) (k : ℕ) (region : Region) (es : List (ℕ × Region)) → find nat_cmp k es ≡ Some region → test region ≡ true
    → list_any test (map (λ (e : ℕ × Region). e.1) es) ≡ true
any_from_found test k region [] found passes = absurd cc
any_from_found test k region (e ∷ es) found passes =
    elim (eq_by_cmp nat_cmp k e.0) as (λ b. cond b (Some e.1) (find nat_cmp k es) ≡ Some region → list_any test (map (λ (e : ℕ × Region). e.1) (e ∷ es)) ≡ true) [
      | true ↦ λ is. let same : e.1 ≡ region = cc in or_left (test e.1) _ (ap test same ∙ passes)
      | false ↦ λ is. or_right (test e.1) _ (any_from_found test k region es is passes)
    ] found

-- a slot has a row whose region passes a test
abbrev HeldWith : (Region → Bool) → Slots → Type 0
HeldWith test slots = (k : ℕ) × (row : Kept) × (row_at slots k ≡ Some row) × (test (kept_region row) ≡ true)

-- a kept row has a slot
held_from_any : (test : Region → Bool) (slots : Slots) (entries : List Queued) → AllByRecursion (IsAt slots) entries → list_any test (map kept_region (kept_entries slots entries)) ≡ true
    → HeldWith test slots
held_from_any test slots [] at any = absurd cc
held_from_any test slots (entry ∷ entries) at any =
    let row = at.0.0 in
    ⊎_elim
    (λ here. (entry.slot, row, at.0.1, ap (λ (k : Kept). test (kept_region k)) (sym (kept_entry-row slots entry row at.0.1)) ∙ here))
    (λ there. held_from_any test slots entries at.1 there)
    (or_cases (test (kept_region (kept_entry slots entry))) _ any)

-- a slot with a row has a kept row
any_from_held : (test : Region → Bool) (slots : Slots) (entries : List Queued) (k : ℕ) (row : Kept) → HasSlot k entries → row_at slots k ≡ Some row → test (kept_region row) ≡ true
    → list_any test (map kept_region (kept_entries slots entries)) ≡ true
any_from_held test slots [] k row has at passes = absurd has
any_from_held test slots (entry ∷ entries) k row has at passes =
    ⊎_elim
    (λ same. or_left _ _ (ap (λ (k : Kept). test (kept_region k)) (kept_entry-row slots entry row (ap (row_at slots) same ∙ at)) ∙ passes))
    (λ there. or_right (test (kept_region (kept_entry slots entry))) _ (any_from_held test slots entries k row there at passes))
    has

module _ (slots : Slots) (entries : List Queued) (owned : Owned) (at : AllByRecursion (IsAt slots) entries) (listed : (k : ℕ) (row : Kept) → row_at slots k ≡ Some row → HasSlot k entries)
    (is_owned : (k : ℕ) → fin.get owned k ≡ option_map kept_region (row_at slots k)) where
  -- a region that is owned is that of a row
  held_from_owned : (test : Region → Bool) → list_any test (occupied owned) ≡ true → HeldWith test slots
  held_from_owned test any =
      let found = found_from_any test (fin.entries owned) (fin.entries_sorted owned) any in
      let row = row_of_region (row_at slots found.0) found.1 (sym (is_owned found.0) ∙ fin.get-entries owned found.0 ∙ found.2) in
      (found.0, row.0, row.1, ap test row.2 ∙ found.3)

  -- the region of a row is owned
  owned_from_held : (test : Region → Bool) → HeldWith test slots → list_any test (occupied owned) ≡ true
  owned_from_held test held =
      any_from_found test held.0 (kept_region held.1) (fin.entries owned)
      (sym (fin.get-entries owned held.0) ∙ is_owned held.0 ∙ ap (option_map kept_region) held.2) held.3

  -- the same positions are covered
  same_covered : (position : ℕ) → is_covered (occupied owned) position ≡ is_covered (map kept_region (kept_entries slots entries)) position
  same_covered position =
      let test = λ (region : Region). covers position region in
      same_from_decides {P = HeldWith test slots} _ _
      (held_from_owned test, owned_from_held test)
      (held_from_any test slots entries at, λ held. any_from_held test slots entries held.0 held.1 (listed held.0 held.1 held.2) held.2 held.3)

module _ (p : Inside) (kept : IsSlotted p) where
  -- the gaps between the regions of the slots are those between products and reservations
  pub gaps_between : gaps (occupied p.regions.owned) p.regions.arena ≡ gaps (occupied_in (products_of p)) p.regions.arena
  gaps_between =
      free_runs-same _ _ (same_covered (all_taken p) (all_entries p) p.regions.owned (all-at p kept) (all-listed p kept) kept.owned) 0 p.regions.arena
      ∙ ap (λ (regions : List Region). gaps regions p.regions.arena) (all-regions p kept)

  -- where a slot is free, a product goes where a gap is long enough
  pub place_for : (need : ℕ) → 0 < length p.free.items → fit need (occupied p.regions.owned) p.regions.arena ≡ room_for (products_of p) need
  place_for need some =
      let place = fit need (occupied_in (products_of p)) p.regions.arena in
      let count = length-map p.by_number.entries (kept_entry (slots_of p)) in
      ap (λ (gaps : List Region). option_map (λ (gap : Region). gap.start) (best_gap need gaps)) gaps_between
      ∙ ap (λ b. cond b place None) (sym (lt-ltb (taken_in (products_of p)) p.regions.slots (omega (arith, count, kept.count, some))))
