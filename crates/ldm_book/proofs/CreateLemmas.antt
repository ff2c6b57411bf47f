-- Slots that have no product, as a queue begins with.
use Rattle.std.proofs.Common.{◌≡◌, ◌≢◌, ℕ, zero, suc, ◌+◌, ◌-◌, ◌<◌, ◌≤◌, List, [], ◌∷◌, ◌++◌, length, map, get_or, replicate, Option, Some, None, refl, sym, ap, subst, ◌∙◌, append_assoc, arith}
use Rattle.std.specs.FinMap as fin
use Rattle.std.specs.List.{AllByRecursion}
use Rattle.std.specs.Option.{option_map}
use Rattle.std.specs.Ordering.{nat_cmp}
use Rattle.std.specs.Vec.{vec_capacity}
use Rattle.std.proofs.lemmas.Option.{none-some, get_or_from_slice_get}
use Rattle.ldm_model.specs.Stat.{extents}
use Rattle.std.proofs.lemmas.List.{length-replicate}
use Rattle.ldm_types.specs.declared.limits.TheConstants.{LARGEST_ARENA, MOST_SLOTS}
use Rattle.ldm_regions.specs.Layout.{Layout, Tiles}
use Rattle.ldm_sigindex.specs.Index.{IsOneToOne}
use Rattle.ldm_timeindex.specs.Times.{Times, Queued, IsRising}
use Rattle.ldm_book.specs.View.{Kept, KeptReservation, Reservations, open_kept}
use Rattle.ldm_book.specs.Reserved.{KeptPlaces, reservations_of}
use Rattle.ldm_book.proofs.SlotsLemmas.{slots-none}
use Rattle.ldm_book.specs.declared.products.Products.TheInside.{Inside}
use Rattle.ldm_book.specs.Products.{kept_region, reserved_region}
use Rattle.ldm_book.specs.Slots.{Slots, row_at, signature_of, slots_from, slots_of, kept_entries, IsAt, AreFree, IsSlotted, taken_from, HaveOwn}

-- the numbers below one, from the greatest down to 0
abbrev pub down_from : ℕ → List ℕ
down_from zero = []
down_from (suc n) = n ∷ down_from n

-- they are as many
length-down_from : (n : ℕ) → length (down_from n) ≡ n
length-down_from zero = refl
length-down_from (suc n) = ap suc (length-down_from n)

-- one more of them, behind those that there are
pub down_more : (front : List ℕ) (n i : ℕ) → i < n → front ++ down_from (n - i) ≡ down_from n → (front ++ (n - 1 - i) ∷ []) ++ down_from (n - (i + 1)) ≡ down_from n
down_more front n i h sofar =
    let here : n - 1 - i ≡ n - (i + 1) = omega arith in
    let left : suc (n - (i + 1)) ≡ n - i = omega arith in
    rw append_assoc (ap (λ k. front ++ k ∷ down_from (n - (i + 1))) here ∙ ap (λ k. front ++ down_from k) left ∙ sofar)

-- each place among so many that have nothing has nothing
none_at : {A : Type 0} (n k : ℕ) → get_or (replicate {A = Option A} n None) k None ≡ None
none_at zero k = refl
none_at (suc n) zero = refl
none_at (suc n) (suc k) = none_at n k

-- numbers below one are others than it
others_below : (m k : ℕ) → k ≤ m → AllByRecursion (λ other. other ≢ m) (down_from k)
others_below m zero h = tt
others_below m (suc k) h = ((λ e. omega (arith, e)), others_below m k (omega arith))

-- slots without products are free
free-down_from : (n k : ℕ) → k ≤ n → AreFree (replicate n None) (down_from k)
free-down_from n zero h = tt
free-down_from n (suc k) h =
    (omega (arith, length-replicate {A = Option Kept} n None), none_at n k, others_below k k (omega arith), free-down_from n k (omega arith))

-- slots without products have no signatures
signatures-none : (n : ℕ) → map signature_of (replicate n None) ≡ replicate n None
signatures-none zero = refl
signatures-none (suc n) = ap (λ (rest : List (Option (List ℕ))). None ∷ rest) (signatures-none n)

-- where no slot has a signature, none has that of another
one_to_one-none : (n : ℕ) → IsOneToOne (replicate n None)
one_to_one-none n a b signature at-a at-b = absurd (none-some signature (sym (none_at n a) ∙ get_or_from_slice_get (replicate n None) a (Some signature) None at-a))

-- where no place has a reservation, nothing is reserved
taken-none : (slots : Slots) (n : ℕ) → taken_from slots (replicate n None) ≡ slots
taken-none slots zero = refl
taken-none slots (suc n) = taken-none slots n

own-none : (slots : Slots) (n : ℕ) → HaveOwn slots (replicate n None)
own-none slots zero = tt
own-none slots (suc n) = own-none slots n

open-none : (n : ℕ) → open_kept (reservations_of (replicate n None)) ≡ []
open-none zero = refl
open-none (suc n) = open-none n

-- and contracts see as many empty places
pub reservations-none : (n : ℕ) → reservations_of (replicate n None) ≡ replicate n None
reservations-none zero = refl
reservations-none (suc n) = ap (λ (rest : Reservations). None ∷ rest) (reservations-none n)

-- slots, none of which has a product, are kept as they should be
pub slotted-none : (p : Inside) (n arena : ℕ) →
    length p.slots.items ≡ n → p.free.items ≡ down_from n → n ≤ vec_capacity p.free →
    p.regions ≡ record { arena = arena; slots = n; owned = fin.empty } → Tiles p.regions →
    p.by_signature ≡ replicate n None → p.by_number ≡ record { slots = n; entries = [] } → p.used ≡ 0 → p.reserved ≡ replicate 64 None →
    n ≤ MOST_SLOTS → arena ≤ LARGEST_ARENA → IsSlotted p
slotted-none p n arena rows free roomy regions tiled signatures numbers used reserved few small =
    let as_many = ap (λ (layout : Layout). layout.slots) regions in
    let slots : slots_of p ≡ replicate n None = ap (slots_from p.slots.items) signatures ∙ slots-none p.slots.items n rows in
    let no_entries = ap (λ (times : Times). times.entries) numbers in
    let nothing = λ (k : ℕ). ap (λ (rows : Slots). row_at rows k) slots ∙ none_at n k in
    let taken : taken_from (slots_of p) p.reserved ≡ replicate n None = ap (taken_from (slots_of p)) reserved ∙ taken-none (slots_of p) 64 ∙ slots in
    let not_taken = λ (k : ℕ). ap (λ (rows : Slots). row_at rows k) taken ∙ none_at n k in
    let none_open = ap (λ (places : KeptPlaces). open_kept (reservations_of places)) reserved ∙ open-none 64 in
    record {
      as_many = ap length slots ∙ length-replicate n None ∙ sym as_many;
      rowed = rows ∙ sym as_many;
      numbered = ap (λ (times : Times). times.slots) numbers ∙ sym as_many;
      rising = subst IsRising (sym no_entries) tt;
      entries = subst (AllByRecursion (IsAt (slots_of p))) (sym no_entries) tt;
      listed = λ k row at. absurd (none-some row (sym (nothing k) ∙ at));
      signatures = signatures ∙ sym (ap (map signature_of) slots ∙ signatures-none n);
      one_to_one = subst IsOneToOne (sym signatures) (one_to_one-none n);
      own = subst (HaveOwn (slots_of p)) (sym reserved) (own-none (slots_of p) 64);
      owned = λ k. ap (λ (layout : Layout). fin.get layout.owned k) regions ∙ fin.get-empty nat_cmp k ∙ ap (option_map kept_region) (sym (not_taken k));
      tiles = tiled;
      free = subst (λ (rows : Slots). AreFree rows p.free.items) (sym taken) (subst (AreFree (replicate n None)) (sym free) (free-down_from n n (omega arith)));
      count =
          (let long = ap (λ (ks : List ℕ). length ks) free in let entries = ap (λ (entries : List Queued). length entries) no_entries in let opened = ap
          (λ (vs : List KeptReservation). length vs) none_open in omega (arith, long, entries, opened, length-down_from n, as_many));
      roomy = omega (arith, as_many);
      used = used ∙ (λ i. extents (map kept_region (kept_entries (slots_of p) (sym no_entries i)) ++ map reserved_region (sym none_open i)));
      few = omega (arith, as_many);
      small = let same = ap (λ (layout : Layout). layout.arena) regions in omega arith;
    }
