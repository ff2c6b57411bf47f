-- What a file keeps, after other bytes of it were written.
use Rattle.std.proofs.Common.{◌≡◌, ◌⊎◌, inl, inr, ⊎_elim, ℕ, ◌+◌, ◌-◌, ◌%◌, ◌==◌, ◌<◌, ◌≤◌, max, Bool, true, false, List, length, get_or, sym, ◌∙◌, ap, subst, arith}
use Rattle.std.specs.Int.{w64, from_be_bytes}
use Rattle.std.proofs.lemmas.Bool.{cases_lt}
use Rattle.std.proofs.Math.Nat.{mod-eq_of_lt, mod-lt}
use Rattle.ldm_disk.specs.Model.{Torn}
use Rattle.ldm_journal.specs.declared.places.TheConstants.{SELECT, RING, NOTE}
use Rattle.ldm_journal.specs.declared.marks.Marks.{Marks}
use Rattle.ldm_journal.specs.Records.{Kept, AreRising}
use Rattle.ldm_journal.specs.Format.{HoldsBy, number_at, selected, place_of, front_at, used_at, next_at, note_at, around}
use Rattle.ldm_journal.specs.Standing.{Keeps}
use Rattle.ldm_journal.specs.Sound.{IsSound}
use Rattle.ldm_journal.proofs.Around.{around_same, between_same, take_same, mod_round}

-- a file has the bytes of another that what is kept by a head stands on
pub record Agrees (from ring : ℕ) (before after : List ℕ) : Type 0 where
  pub long : length after ≡ length before
  pub opening : (q : ℕ) → q < 24 → get_or after q 0 ≡ get_or before q 0
  pub head : (q : ℕ) → from ≤ q → q < from + 24 + NOTE → get_or after q 0 ≡ get_or before q 0
  pub records : (i : ℕ) → i < used_at from before
      → get_or after (RING + (front_at from before + i) % ring) 0 ≡ get_or before (RING + (front_at from before + i) % ring) 0

pub number_same : (place : ℕ) (before after : List ℕ) → length after ≡ length before
    → ((q : ℕ) → place ≤ q → q < place + 8 → get_or after q 0 ≡ get_or before q 0) → number_at place after ≡ number_at place before
unfolding number_at
number_same place before after long same = ap (λ (l : List ℕ). from_be_bytes w64 l) (between_same place (place + 8) before after long same)

pub selected_same : (before after : List ℕ) → get_or after SELECT 0 ≡ get_or before SELECT 0 → selected after ≡ selected before
unfolding selected
selected_same before after same = ap (λ (byte : ℕ). byte % 2 == 1) same

-- the three numbers of a head, and its note
pub record SameHead (head : ℕ) (before after : List ℕ) : Type 0 where
  pub front : front_at head after ≡ front_at head before
  pub used : used_at head after ≡ used_at head before
  pub next : next_at head after ≡ next_at head before
  pub note : note_at head after ≡ note_at head before

pub same_head : (head : ℕ) (before after : List ℕ) → length after ≡ length before
    → ((q : ℕ) → head ≤ q → q < head + 24 + NOTE → get_or after q 0 ≡ get_or before q 0) → SameHead head before after
same_head head before after long same = record {
  front = number_same head before after long (λ q from to. same q from (omega (arith, to)));
  used = number_same (head + 8) before after long (λ q from to. same q (omega (arith, from)) (omega (arith, to)));
  next = number_same (head + 16) before after long (λ q from to. same q (omega (arith, from)) (omega (arith, to)));
  note = between_same (head + 24) (head + 24 + NOTE) before after long (λ q from to. same q (omega (arith, from)) to);
}

pub holds_by : (head ring : ℕ) (kept : List Kept) (note before after : List ℕ) → Agrees head ring before after → HoldsBy head ring kept note before → HoldsBy head ring kept note after
holds_by head ring kept note before after agrees h =
    let same = same_head head before after agrees.long agrees.head in
    record {
      opened = take_same 24 before after agrees.long agrees.opening ∙ h.opened;
      long = agrees.long ∙ h.long;
      front = omega (arith, same.front, h.front);
      used = omega (arith, same.used, h.used);
      records = ap (λ (n : ℕ). around ring n (used_at head after) after) same.front ∙ ap (λ (n : ℕ). around ring (front_at head before) n after) same.used
          ∙ around_same ring (front_at head before) (used_at head before) before after agrees.records ∙ h.records;
      lawful = h.lawful;
      rising = subst (λ (n : ℕ). AreRising 0 kept n) (sym same.next) h.rising;
      noted = same.note ∙ h.noted;
    }

-- what is kept, by the marks alone
pub record KeepsBy (marks : Marks) (kept : List Kept) (file : List ℕ) : Type 0 where
  pub holds : HoldsBy (place_of marks.odd) marks.ring kept marks.note file
  pub front : front_at (place_of marks.odd) file ≡ marks.front
  pub used : used_at (place_of marks.odd) file ≡ marks.used

pub by_marks : (marks : Marks) (kept : List Kept) (file : List ℕ) → Keeps marks kept file → KeepsBy marks kept file
by_marks marks kept file k = record {
  holds = subst (λ (o : Bool). HoldsBy (place_of o) marks.ring kept marks.note file) k.odd k.holds;
  front = subst (λ (o : Bool). front_at (place_of o) file ≡ marks.front) k.odd k.front;
  used = subst (λ (o : Bool). used_at (place_of o) file ≡ marks.used) k.odd k.used;
}

pub from_marks : (marks : Marks) (kept : List Kept) (file : List ℕ) → selected file ≡ marks.odd → KeepsBy marks kept file → Keeps marks kept file
from_marks marks kept file odd k = record {
  holds = subst (λ (o : Bool). HoldsBy (place_of o) marks.ring kept marks.note file) (sym odd) k.holds;
  odd = odd;
  front = subst (λ (o : Bool). front_at (place_of o) file ≡ marks.front) (sym odd) k.front;
  used = subst (λ (o : Bool). used_at (place_of o) file ≡ marks.used) (sym odd) k.used;
}

pub keeps_by : (marks : Marks) (kept : List Kept) (before after : List ℕ) → Agrees (place_of marks.odd) marks.ring before after → KeepsBy marks kept before → KeepsBy marks kept after
keeps_by marks kept before after agrees k =
    let same = same_head (place_of marks.odd) before after agrees.long agrees.head in
    record {
      holds = holds_by (place_of marks.odd) marks.ring kept marks.note before after agrees k.holds;
      front = same.front ∙ k.front;
      used = same.used ∙ k.used;
    }

-- heads stand in front of the ring
pub head_within : (odd : Bool) → (24 < place_of odd) × (place_of odd + 24 + NOTE ≤ RING)
head_within false = (omega arith, omega arith)
head_within true = (omega arith, omega arith)

-- the places of records, beside those that come behind them
pub apart : (ring front taken n i : ℕ) → front < ring → taken + n ≤ ring → i < taken → (front + taken) % ring + n ≤ ring
    → ((front + i) % ring < (front + taken) % ring) ⊎ ((front + taken) % ring + n ≤ (front + i) % ring)
apart ring front taken n i in_ring fits less ends =
    elim (cases_lt (front + taken) ring) [
      | inl short ↦
          (let a : (front + taken) % ring ≡ front + taken = mod-eq_of_lt short in
          let b : (front + i) % ring ≡ front + i = mod-eq_of_lt (omega (arith, short, less)) in
          inl (omega (arith, a, b, less)))
      | inr long ↦
          (let a : (front + taken) % ring ≡ front + taken - ring = mod_round (front + taken) ring long (omega (arith, in_ring, fits)) in
          elim (cases_lt (front + i) ring) [
            | inl before ↦
                (let b : (front + i) % ring ≡ front + i = mod-eq_of_lt before in
                inr (omega (arith, a, b, fits, long)))
            | inr round ↦
                (let b : (front + i) % ring ≡ front + i - ring = mod_round (front + i) ring round (omega (arith, in_ring, fits, less)) in
                inl (omega (arith, a, b, less, round)))
          ])
    ]

-- bytes outside of a torn range stay
pub torn_beside : (start end : ℕ) (before after : List ℕ) (q : ℕ) → end ≤ length before → Torn start end (max (length before) end) before after
    → (q < start) ⊎ (end ≤ q) → (length after ≡ length before) × (q < length before → get_or after q 0 ≡ get_or before q 0)
torn_beside start end before after q within torn outside =
    let same : length after ≡ length before = ⊎_elim (λ s. s) (λ new. omega (arith, new, within)) torn.long in
    (same, λ there. torn.stays q there (omega (arith, there, same)) outside)

-- A range of the ring behind what is committed and appended was torn.
pub torn_keeps : (marks : Marks) (kept : List Kept) (n start end : ℕ) (before after : List ℕ) → IsSound marks → marks.used + marks.appended + n ≤ marks.ring
    → (marks.front + marks.used + marks.appended) % marks.ring + n ≤ marks.ring → RING + (marks.front + marks.used + marks.appended) % marks.ring ≡ start
    → end ≤ start + n → Torn start end (max (length before) end) before after → Keeps marks kept before → Keeps marks kept after
torn_keeps marks kept n start end before after sound fits ends at to torn keeps =
    let k = by_marks marks kept before keeps in
    let whole : length before ≡ RING + marks.ring = k.holds.long in
    let within : end ≤ length before = omega (arith, whole, to, ends, at) in
    let place = (marks.front + marks.used + marks.appended) % marks.ring in
    let low : (q : ℕ) → q < RING → get_or after q 0 ≡ get_or before q 0 =
    λ q less. (torn_beside start end before after q within torn (inl (omega (arith, less, at)))).1 (omega (arith, less, whole)) in
    let head = head_within marks.odd in
    let sum : marks.front + marks.used + marks.appended ≡ marks.front + (marks.used + marks.appended) = omega arith in
    let agrees : Agrees (place_of marks.odd) marks.ring before after = record {
      long = (torn_beside start end before after 0 within torn (inl (omega (arith, at)))).0;
      opening = λ q less. low q (omega (arith, less));
      head = λ q from less. low q (omega (arith, less, head.1));
      records = λ i less.
          (let here : i < marks.used = omega (arith, less, k.used) in
          let p = (marks.front + i) % marks.ring in
          let beside = apart marks.ring marks.front (marks.used + marks.appended) n i sound.1 fits (omega (arith, here))
          (subst (λ (m : ℕ). m % marks.ring + n ≤ marks.ring) sum ends) in
          let is : (marks.front + (marks.used + marks.appended)) % marks.ring ≡ place = ap (λ (m : ℕ). m % marks.ring) (sym sum) in
          let inside : p < marks.ring = mod-lt (marks.front + i) {m = marks.ring} (omega (arith, sound.1)) in
          let same = (torn_beside start end before after (RING + p) within torn
          (⊎_elim (λ b. inl (omega (arith, b, is, at))) (λ a. inr (omega (arith, a, is, at, to))) beside)).1 (omega (arith, whole, inside)) in
          subst (λ (f : ℕ). get_or after (RING + (f + i) % marks.ring) 0 ≡ get_or before (RING + (f + i) % marks.ring) 0) (sym k.front) same);
    } in
    from_marks marks kept after (selected_same before after (low SELECT (omega arith)) ∙ keeps.odd) (keeps_by marks kept before after agrees k)
