-- What is left where the product of a number is taken out of its slot.
use Rattle.std.proofs.Common.{◌≡◌, ◌≢◌, ℕ, suc, ◌+◌, ◌≤◌, List, [], ◌∷◌, ◌++◌, length, map, set, Option, Some, None, refl, sym, ap, subst, ◌∙◌, inl, inr, length-append, length-set, arith}
use Rattle.std.specs.FinMap as fin
use Rattle.std.specs.List.{AllByRecursion, Any, find}
use Rattle.std.specs.Option.{option_map}
use Rattle.std.specs.Vec.{vec_capacity}
use Rattle.std.proofs.lemmas.Bool.{cases_eq}
use Rattle.std.proofs.lemmas.List.{map-set}
use Rattle.std.proofs.lemmas.Option.{none-some, some_pair_parts}
use Rattle.ldm_model.specs.Stat.{extents}
use Rattle.ldm_regions.specs.Layout.{Layout, Tiles, without_owner}
use Rattle.ldm_sigindex.specs.Index.{Table, slot_of, IsOneToOne}
use Rattle.ldm_timeindex.specs.Times.{Queued, IsRising, at_number, number_and_slot}
use Rattle.ldm_book.specs.declared.products.Products.TheInside.{Inside}
use Rattle.ldm_book.specs.View.{Kept, open_kept}
use Rattle.ldm_book.specs.Products.{ProductsView, kept_extent, kept_region, occupied_by, reserved_region, without}
use Rattle.ldm_book.specs.Reserved.{KeptPlaces, reservations_of}
use Rattle.ldm_book.specs.Slots.{Slots, row_at, signature_of, slots_of, with_entry, kept_entry, kept_entries, products_of, kept_or_none, IsAt, HasSlot, AreFree, IsSlotted, taken_from, HaveOwn}
use Rattle.ldm_book.proofs.EntryLemmas.{others, all_others, IsAmong, among, any_entry, all_middle, rows-others, slot_middle, extents_middle}
use Rattle.ldm_book.proofs.RowAtLemmas.{emptied, emptied-other, free-emptied, owned-emptied}
use Rattle.ldm_book.proofs.KeptEntryLemmas.{other_slot}
use Rattle.ldm_book.proofs.SlotOfLemmas.{slot_of_row}
use Rattle.ldm_book.proofs.AllEntriesLemmas.{all_taken}
use Rattle.ldm_book.proofs.OpenPlacesLemmas.{extents-append}
use Rattle.ldm_book.proofs.TakenLemmas.{avoid_kept, own-set, taken-kept, taken-set}

-- where entries do not have a slot, they stand for the same products once it is emptied
kept-emptied : (slots : Slots) (slot : ℕ) (es : List Queued) → AllByRecursion (λ e. e.slot ≢ slot) es → kept_entries (set slots slot None) es ≡ kept_entries slots es
kept-emptied slots slot [] apart = refl
kept-emptied slots slot (e ∷ es) apart =
    ap (λ (o : Option Kept). with_entry e o ∷ kept_entries (set slots slot None) es) (emptied-other slots slot e.slot apart.0)
    ∙ ap (λ ks. kept_entry slots e ∷ ks) (kept-emptied slots slot es apart.1)

-- an entry has that number and that slot, and the slot has its product
pub record IsNumbered (slots : Slots) (es : List Queued) (n slot : ℕ) : Type 0 where
  pub among : IsAmong n es
  pub has : among.entry.slot ≡ slot
  pub row : Kept
  pub here : row_at slots slot ≡ Some row
  pub number : row.number ≡ n

-- the number of a product is the number of an entry
pub any_number : (p : Inside) {view : ProductsView} (n : ℕ) → products_of p ≡ view → Any (λ k. k.number ≡ n) view.rows → Any (λ e. e.n ≡ n) p.by_number.entries
any_number p n is any = any_entry (slots_of p) n p.by_number.entries (subst (λ (v : ProductsView). Any (λ k. k.number ≡ n) v.rows) (sym is) any)

-- the index finds a number that a product has
pub number_found : {p : Inside} {view : ProductsView} (n : ℕ) → IsSlotted p → products_of p ≡ view → Any (λ k. k.number ≡ n) view.rows
    → None ≡ option_map number_and_slot (find (at_number n) p.by_number.entries) → ⊥
number_found {p} n slotted is any none =
    let there = among n p.by_number.entries slotted.rising (any_number p n is any) in
    none-some (number_and_slot there.entry) (none ∙ ap (option_map number_and_slot) there.first)

-- the slot that it finds is the one of the product
pub numbered : {p : Inside} {view : ProductsView} {slot found : ℕ} (n : ℕ) → IsSlotted p → products_of p ≡ view → Any (λ k. k.number ≡ n) view.rows
    → Some (found, slot) ≡ option_map number_and_slot (find (at_number n) p.by_number.entries) → IsNumbered (slots_of p) p.by_number.entries n slot
numbered {p} {view} {slot} {found} n slotted is any first =
    let there = among n p.by_number.entries slotted.rising (any_number p n is any) in
    let has = sym (some_pair_parts found there.entry.n slot there.entry.slot (first ∙ ap (option_map number_and_slot) there.first)).1 in
    let at = all_middle (IsAt (slots_of p)) there.before there.entry there.behind (subst (AllByRecursion (IsAt (slots_of p))) there.parts slotted.entries) in
    record {
      among = there;
      has = has;
      row = at.0;
      here = ap (row_at (slots_of p)) (sym has) ∙ at.1;
      number = at.2 ∙ there.number;
    }

module _ {slots : Slots} {es : List Queued} {n slot : ℕ} (at : IsNumbered slots es n slot) where
  -- an entry of another number has another slot
  slot_apart : (e : Queued) → e.n ≢ n → IsAt slots e → e.slot ≢ slot
  slot_apart e apart is = other_slot slots e.slot slot is.0 at.row is.1 at.here (λ same. apart (sym is.2 ∙ same ∙ at.number))

  -- the slots of the other entries have their products still
  entries_left : AllByRecursion (IsAt slots) es → AllByRecursion (IsAt (set slots slot None)) (others n es)
  entries_left = all_others (IsAt slots) (IsAt (set slots slot None)) n (λ e apart is. (is.0, emptied-other slots slot e.slot (slot_apart e apart is) ∙ is.1, is.2, is.3)) es

  -- the other entries stand for the same products as before
  kept_left : AllByRecursion (IsAt slots) es → kept_entries (set slots slot None) (others n es) ≡ kept_entries slots (others n es)
  kept_left all = kept-emptied slots slot (others n es) (all_others (IsAt slots) (λ e. e.slot ≢ slot) n slot_apart es all)

  -- each product that is left has an entry
  listed_left : ((k : ℕ) (row : Kept) → row_at slots k ≡ Some row → HasSlot k es) → (k : ℕ) (row : Kept) → row_at (set slots slot None) k ≡ Some row → HasSlot k (others n es)
  listed_left listed k row is =
      elim (cases_eq k slot) [
        | inl same ↦ absurd (none-some row (sym (ap (row_at (set slots slot None)) same ∙ emptied slots slot) ∙ is))
        | inr apart ↦ elim (slot_middle k at.among.before at.among.entry at.among.behind (subst (HasSlot k) at.among.parts (listed k row (sym (emptied-other slots slot k apart) ∙ is)))) [
          | inl that ↦ absurd (apart (sym that ∙ at.has))
          | inr rest ↦ subst (HasSlot k) (sym at.among.left) rest
        ]
      ]

  -- one entry less
  count_left : length es ≡ suc (length (others n es))
  count_left = omega (arith, ap length at.among.parts, ap length at.among.left, length-append at.among.before (at.among.entry ∷ at.among.behind), length-append at.among.before at.among.behind)

  -- the extents that are left
  pub extents_left : AllByRecursion (IsAt slots) es
      → extents (map kept_region (kept_entries slots es)) ≡ kept_extent at.row + extents (map kept_region (kept_entries (set slots slot None) (others n es)))
  extents_left all =
      ap (λ es. extents (map kept_region (kept_entries slots es))) at.among.parts
      ∙ extents_middle slots at.among.before at.among.entry at.among.behind
      ∙ ap (λ (o : Option Kept). kept_extent (kept_or_none o) + extents (map kept_region (kept_entries slots (at.among.before ++ at.among.behind)))) (ap (row_at slots) at.has ∙ at.here)
      ∙ ap (λ es. kept_extent at.row + extents (map kept_region (kept_entries slots es))) (sym at.among.left)
      ∙ ap (λ (ks : List Kept). kept_extent at.row + extents (map kept_region ks)) (sym (kept_left all))

-- the index by signature finds the slot of a product
pub slot_by_signature : {p : Inside} (slot : ℕ) (row : Kept) → IsSlotted p → row_at (slots_of p) slot ≡ Some row → slot_of p.by_signature row.signature ≡ Some slot
slot_by_signature {p} slot row slotted here =
    ap (λ (table : Table). slot_of table row.signature) slotted.signatures
    ∙ slot_of_row (slots_of p) slot row here (subst IsOneToOne slotted.signatures slotted.one_to_one)

-- each part is without the product of that number and that slot
pub record HasLeft (p q : Inside) (n slot : ℕ) (row : Kept) : Type 0 where
  pub slots : slots_of q ≡ set (slots_of p) slot None
  pub rowed : length q.slots.items ≡ length p.slots.items
  pub free : q.free.items ≡ p.free.items ++ slot ∷ []
  pub roomy : vec_capacity p.free ≤ vec_capacity q.free
  pub regions : q.regions ≡ without_owner p.regions slot
  pub tiles : Tiles q.regions
  pub signatures : q.by_signature ≡ set p.by_signature slot None
  pub one_to_one : IsOneToOne q.by_signature
  pub numbered : q.by_number.slots ≡ p.by_number.slots
  pub entries : q.by_number.entries ≡ others n p.by_number.entries
  pub rising : IsRising q.by_number.entries
  pub used : q.used + kept_extent row ≡ p.used
  pub reserved : q.reserved ≡ p.reserved

module _ {p q : Inside} {n slot : ℕ} (slotted : IsSlotted p) (at : IsNumbered (slots_of p) p.by_number.entries n slot) (left : HasLeft p q n slot at.row) where
  -- the slots that are taken still
  taken_left : taken_from (slots_of q) q.reserved ≡ set (all_taken p) slot None
  taken_left =
      (λ i. taken_from (left.slots i) (left.reserved i))
      ∙ taken-set (slots_of p) p.reserved slot None (avoid_kept (slots_of p) p.reserved slot at.row slotted.own at.here)

  -- the sum of the extents that are left
  extents_then : p.used ≡ kept_extent at.row + extents (occupied_by (kept_entries (slots_of q) q.by_number.entries) (reservations_of q.reserved))
  extents_then =
      let before = kept_entries (slots_of p) p.by_number.entries in
      let after = kept_entries (slots_of q) q.by_number.entries in
      let now =
      ap (λ s. extents (map kept_region (kept_entries s q.by_number.entries))) left.slots ∙ ap (λ es. extents (map kept_region (kept_entries (set (slots_of p) slot None) es))) left.entries in
      let reserved = ap (λ (places : KeptPlaces). extents (map reserved_region (open_kept (reservations_of places)))) left.reserved in
      omega (
        arith,
        slotted.used,
        now,
        reserved,
        extents_left at slotted.entries,
        extents-append (map kept_region before) (map reserved_region (open_kept (reservations_of p.reserved))),
        extents-append
            (map kept_region after) (map reserved_region (open_kept (reservations_of q.reserved))),
      )

  -- the others are kept in slots as before
  pub slotted_left : IsSlotted q
  slotted_left =
      let slots = slots_of p in
      let es = p.by_number.entries in
      let as_many : q.regions.slots ≡ p.regions.slots = ap (λ (r : Layout). r.slots) left.regions in
      let opened = ap (λ (places : KeptPlaces). length (open_kept (reservations_of places))) left.reserved in
      record {
        as_many = ap length left.slots ∙ length-set slots slot None ∙ slotted.as_many ∙ sym as_many;
        rowed = left.rowed ∙ slotted.rowed ∙ sym as_many;
        numbered = left.numbered ∙ slotted.numbered ∙ sym as_many;
        rising = left.rising;
        entries =
            subst (λ s. AllByRecursion (IsAt s) q.by_number.entries) (sym left.slots)
            (subst (AllByRecursion (IsAt (set slots slot None))) (sym left.entries) (entries_left at slotted.entries));
        listed = λ k row is. subst (HasSlot k) (sym left.entries) (listed_left at slotted.listed k row (ap (λ s. row_at s k) (sym left.slots) ∙ is));
        signatures =
            left.signatures ∙ ap (λ (table : Table). set table slot None) slotted.signatures
            ∙ sym (map-set signature_of slots slot None)
            ∙ ap (map signature_of) (sym left.slots);
        one_to_one = left.one_to_one;
        own =
            subst (λ (s : Slots). HaveOwn s q.reserved) (sym left.slots)
            (subst (λ (places : KeptPlaces). HaveOwn (set slots slot None) places) (sym left.reserved)
            (own-set slots p.reserved slot None (avoid_kept slots p.reserved slot at.row slotted.own at.here) slotted.own));
        owned = λ k.
            ap (λ (r : Layout). fin.get r.owned k) left.regions ∙ owned-emptied (all_taken p) slot p.regions.owned slotted.owned k
            ∙ ap (λ s. option_map kept_region (row_at s k)) (sym taken_left);
        tiles = left.tiles;
        free =
            subst (λ s. AreFree s q.free.items) (sym taken_left)
            (subst (AreFree (set (all_taken p) slot None)) (sym left.free)
            (free-emptied (all_taken p) slot at.row (taken-kept slots p.reserved slot at.row slotted.own at.here) p.free.items slotted.free));
        count = omega (arith, ap length left.free, length-append p.free.items (slot ∷ []), count_left at, ap length left.entries, as_many, opened, slotted.count);
        roomy = omega (arith, as_many);
        used = omega (arith, extents_then, left.used);
        few = omega (arith, as_many);
        small = omega (arith, ap (λ (r : Layout). r.arena) left.regions);
      }

  -- the products that are left are those of other numbers
  pub products_left : products_of q ≡ without n (products_of p)
  products_left =
      let slots = slots_of p in
      let es = p.by_number.entries in
      (λ i. record { arena = (left.regions i).arena; slots = (left.regions i).slots; rows = kept_entries (slots_of q) q.by_number.entries; reservations = reservations_of (left.reserved i) })
      ∙ ap (λ rows. record { arena = p.regions.arena; slots = p.regions.slots; rows = rows; reservations = reservations_of p.reserved })
      (ap (λ (s : Slots). kept_entries s q.by_number.entries) left.slots ∙ ap (kept_entries (set slots slot None)) left.entries ∙ kept_left at slotted.entries ∙ sym (rows-others slots n es))
