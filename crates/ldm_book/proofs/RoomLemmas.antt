-- Room for a product: evictions never take it away, and the last of them leave the held products.
use Rattle.std.proofs.Common.{◌≡◌, ℕ, zero, suc, ◌+◌, ◌<◌, ◌≤◌, ◌||◌, Bool, true, false, cond, not, List, [], ◌∷◌, ◌++◌, length, map}
use Rattle.std.proofs.Common.{take, drop, Option, Some, None, refl, sym, ap, subst, ◌∙◌, inl, inr, arith}
use Rattle.std.specs.Prelude.{filter, is_some}
use Rattle.std.proofs.lemmas.Bool.{true≢false, false≢true, lt-ltb, le-ltb, cases_lt, eq-eqb, ne_eqb, cases_eq, or_parts}
use Rattle.std.proofs.lemmas.List.Folds.{list_any-append}
use Rattle.ldm_types.specs.Arena.{covers, fit, is_covered}
use Rattle.ldm_types.specs.Cursors.{Places}
use Rattle.ldm_cursor.specs.Places.{is_held}
use Rattle.ldm_book.specs.View.{BookView, Kept, Reservations, open_kept}
use Rattle.ldm_book.specs.Lookup.{kept_signature, kept_with}
use Rattle.ldm_book.specs.Products.{AreRising, ProductsView, is_other, kept_number, kept_region, occupied_by, occupied_in, reserved_region, room_for, taken_in}
use Rattle.ldm_book.specs.Readers.{AreAhead, first_of, free_numbers, held_products, is_kept_free, is_kept_held, products, unheld_numbers, without_all, without_oldest, without_product}
use Rattle.ldm_model.proofs.Space.{fit-space, space-fit}
use Rattle.ldm_book.proofs.FreeLemmas.{first-there, rising_left, unheld-evicted, held_left, held-alike, is_held-loss, ahead-alike}

-- fewer products cover no more
covered_filter : (test : Kept → Bool) (i : ℕ) (rows : List Kept) → is_covered (map kept_region rows) i ≡ false → is_covered (map kept_region (filter test rows)) i ≡ false
covered_filter test i [] e = refl
covered_filter test i (k ∷ ks) e =
    let parts = or_parts (covers i (kept_region k)) (is_covered (map kept_region ks) i) e in
    by_test (test k) parts.0 (covered_filter test i ks parts.1)
  where
    by_test : (b : Bool) → covers i (kept_region k) ≡ false → is_covered (map kept_region (filter test ks)) i ≡ false
        → is_covered (map kept_region (cond b (k ∷ filter test ks) (filter test ks))) i ≡ false
    by_test true here rest = ap (λ (x : Bool). x || is_covered (map kept_region (filter test ks)) i) here ∙ rest
    by_test false here rest = rest

length_filter : (test : Kept → Bool) (rows : List Kept) → length (filter test rows) ≤ length rows
length_filter test [] = omega arith
length_filter test (k ∷ ks) = by_test (test k) (length_filter test ks)
  where
    by_test : (b : Bool) → length (filter test ks) ≤ length ks → length (cond b (k ∷ filter test ks) (filter test ks)) ≤ length (k ∷ ks)
    by_test true rest = omega arith
    by_test false rest = omega arith

-- fewer products occupy no more
covered_less : (test : Kept → Bool) (i : ℕ) (rows : List Kept) (rs : Reservations) → is_covered (occupied_by rows rs) i ≡ false → is_covered (occupied_by (filter test rows) rs) i ≡ false
covered_less test i rows rs e =
    let reserved = map reserved_region (open_kept rs) in
    let parts = or_parts (is_covered (map kept_region rows) i) (is_covered reserved i) (sym (list_any-append (covers i) (map kept_region rows) reserved) ∙ e) in
    list_any-append (covers i) (map kept_region (filter test rows)) reserved
    ∙ ap (λ (b : Bool). b || is_covered reserved i) (covered_filter test i rows parts.0) ∙ parts.1

-- the two parts of having room
room_parts : (p : ProductsView) (need : ℕ) → is_some (room_for p need) ≡ true → (taken_in p < p.slots) × (is_some (fit need (occupied_in p) p.arena) ≡ true)
room_parts p need h = elim (cases_lt (taken_in p) p.slots) [
  | inl below ↦ (below, ap (λ (b : Bool). is_some (cond b (fit need (occupied_in p) p.arena) None)) (sym (lt-ltb (taken_in p) p.slots below)) ∙ h)
  | inr above ↦ absurd (false≢true (ap (λ (b : Bool). is_some (cond b (fit need (occupied_in p) p.arena) None)) (sym (le-ltb (taken_in p) p.slots above)) ∙ h))
]

pub room_of_parts : (p : ProductsView) (need : ℕ) → taken_in p < p.slots → is_some (fit need (occupied_in p) p.arena) ≡ true → is_some (room_for p need) ≡ true
room_of_parts p need slot fits = ap (λ (b : Bool). is_some (cond b (fit need (occupied_in p) p.arena) None)) (lt-ltb (taken_in p) p.slots slot) ∙ fits

-- with fewer products there is room still
pub room_filter : (p : ProductsView) (need : ℕ) (test : Kept → Bool) → 0 < need → is_some (room_for p need) ≡ true → is_some (room_for (record p { rows = filter test p.rows }) need) ≡ true
room_filter p need test some h =
    let parts = room_parts p need h in
    let space = fit-space need p.arena (occupied_in p) parts.1 in
    room_of_parts (record p { rows = filter test p.rows }) need (omega (arith, length_filter test p.rows, parts.0))
    (space-fit need p.arena (occupied_by (filter test p.rows) p.reservations) some
    (record { start = space.start; above = space.above; within = space.within; free = λ i a b. covered_less test i p.rows p.reservations (space.free i a b) }))

-- evicting what nobody holds leaves the held products
held-evicted : (book : BookView) (n : ℕ) → is_held n book.cursors ≡ false → held_products (without_product n book) ≡ held_products book
held-evicted book n free =
    ap (λ (ks : List Kept). record (products book) { rows = ks })
    (held-alike (without_product n book).cursors book.cursors (filter (is_other n) book.rows) (λ m. is_held-loss n _ m book.cursors) ∙ held_left book.cursors book.rows n free)

held-all : (j : ℕ) (ns : List ℕ) (book : BookView) → unheld_numbers book ≡ ns → AreRising book.rows → held_products (without_all (take j ns) book) ≡ held_products book
held-all zero ns book is rising = refl
held-all (suc j) [] book is rising = refl
held-all (suc j) (n ∷ ns) book is rising =
    let first : first_of (unheld_numbers book) ≡ Some n = ap first_of is in
    let there = first-there book.cursors book.rows n first in
    held-all j ns (without_product n book) (unheld-evicted book n rising first ∙ ap (drop 1) is) (rising_left (is_other n) book.rows rising) ∙ held-evicted book n there.1

false_from_not : (b : Bool) → (b ≡ true → ⊥) → b ≡ false
false_from_not true h = absurd (h refl)
false_from_not false h = refl

-- where there is no room beside the held products, no evictions make room
pub no_room : (book : BookView) (need i : ℕ) → 0 < need → AreRising book.rows → is_some (room_for (held_products book) need) ≡ false
    → is_some (room_for (products (without_oldest i book)) need) ≡ false
no_room book need i some rising none =
    false_from_not (is_some (room_for (products (without_oldest i book)) need)) (λ room.
    let after = without_oldest i book in
    true≢false (sym (room_filter (products after) need (is_kept_held after.cursors) some room)
    ∙ ap (λ (p : ProductsView). is_some (room_for p need)) (held-all i (unheld_numbers book) book refl rising) ∙ none))

-- where nobody holds nothing, all are held
all_held : (cs : Places) (rows : List Kept) → free_numbers cs rows ≡ [] → filter (is_kept_held cs) rows ≡ rows
all_held cs [] e = refl
all_held cs (k ∷ ks) e = by_test (all_held cs ks) (is_kept_held cs k) refl
  where
    by_test : (free_numbers cs ks ≡ [] → filter (is_kept_held cs) ks ≡ ks) → (b : Bool) → is_kept_held cs k ≡ b → filter (is_kept_held cs) (k ∷ ks) ≡ k ∷ ks
    by_test rest true held =
        ap (λ (x : Bool). cond x (k ∷ filter (is_kept_held cs) ks) (filter (is_kept_held cs) ks)) held
        ∙ ap (λ (rs : List Kept). k ∷ rs) (rest (sym (ap (λ (x : Bool). map kept_number (cond (not x) (k ∷ filter (is_kept_free cs) ks) (filter (is_kept_free cs) ks))) held) ∙ e))
    by_test rest false free =
        let some : k.number ∷ free_numbers cs ks ≡ [] = sym (ap (λ (x : Bool). map kept_number (cond (not x) (k ∷ filter (is_kept_free cs) ks) (filter (is_kept_free cs) ks))) free) ∙ e in
        absurd cc

-- so many were evicted, and there is no room yet
pub record Evicted (old now : BookView) (need from j : ℕ) : Type 0 where
  pub now_is : now ≡ without_oldest j old
  pub left : unheld_numbers now ≡ drop j (unheld_numbers old)
  pub few : j ≤ length (unheld_numbers old)
  pub ahead : AreAhead from now.cursors now.rows
  pub count : j ≤ from
  pub held : held_products now ≡ held_products old
  pub needed : (i : ℕ) → i < j + 1 → room_for (products (without_oldest i old)) need ≡ None

pub evicted_none : (old : BookView) (need : ℕ) → AreAhead 0 old.cursors old.rows → room_for (products old) need ≡ None → Evicted old old need 0 0
evicted_none old need ahead full = record {
  now_is = refl;
  left = refl;
  few = omega arith;
  ahead = ahead;
  count = omega arith;
  held = refl;
  needed = λ i h. let same : 0 ≡ i = omega arith in ap (λ (k : ℕ). room_for (products (without_oldest k old)) need) (sym same) ∙ full;
}

without_push : (ns : List ℕ) (n : ℕ) (book : BookView) → without_all (ns ++ n ∷ []) book ≡ without_product n (without_all ns book)
without_push [] n book = refl
without_push (m ∷ ms) n book = without_push ms n (without_product m book)

take_next : (j n : ℕ) (ns : List ℕ) → first_of (drop j ns) ≡ Some n → (take (j + 1) ns ≡ take j ns ++ n ∷ []) × (j + 1 ≤ length ns) × (drop 1 (drop j ns) ≡ drop (j + 1) ns)
take_next zero n [] e = absurd cc
take_next zero n (m ∷ ms) e = let same : m ≡ n = cc in (ap (λ (x : ℕ). x ∷ []) same, omega arith, refl)
take_next (suc j) n [] e = absurd cc
take_next (suc j) n (m ∷ ms) e =
    let rest = take_next j n ms e in
    let more : suc j + 1 ≡ suc (j + 1) = omega arith in
    (ap (λ (k : ℕ). take k (m ∷ ms)) more ∙ ap (λ (xs : List ℕ). m ∷ xs) rest.0, omega (arith, rest.1), rest.2 ∙ ap (λ (k : ℕ). drop k (m ∷ ms)) (sym more))

ahead_next : (cs : Places) (n : ℕ) (rows : List Kept) → AreAhead n cs rows → AreAhead (n + 1) cs (filter (is_other n) rows)
ahead_next cs n [] ahead = tt
ahead_next cs n (k ∷ ks) ahead = elim (cases_eq k.number n) [
  | inl same ↦ subst (λ (b : Bool). AreAhead (n + 1) cs (cond (not b) (k ∷ filter (is_other n) ks) (filter (is_other n) ks))) (sym (eq-eqb k.number n same)) (ahead_next cs n ks ahead.1)
  | inr other ↦ subst (λ (b : Bool). AreAhead (n + 1) cs (cond (not b) (k ∷ filter (is_other n) ks) (filter (is_other n) ks))) (sym (ne_eqb k.number n other))
      ((λ free. let above = ahead.0 free in omega (arith, above, other)), ahead_next cs n ks ahead.1)
]

-- the oldest that nobody holds is evicted
pub record IsNext (old now after : BookView) (n j : ℕ) : Type 0 where
  pub now_is : after ≡ without_oldest (j + 1) old
  pub left : unheld_numbers after ≡ drop (j + 1) (unheld_numbers old)
  pub few : j + 1 ≤ length (unheld_numbers old)
  pub ahead : AreAhead (n + 1) after.cursors after.rows
  pub held : held_products after ≡ held_products old

pub next_evicted : (old now after : BookView) (need from n j : ℕ) → Evicted old now need from j → AreRising now.rows → AreAhead n now.cursors now.rows → Some n ≡ first_of (unheld_numbers now)
    → after ≡ without_product n now → IsNext old now after n j
next_evicted old now after need from n j so_far rising ahead first is =
    let next = take_next j n (unheld_numbers old) (ap first_of (sym so_far.left) ∙ sym first) in
    let there = first-there now.cursors now.rows n (sym first) in
    record {
      now_is =
          is ∙ ap (without_product n) so_far.now_is ∙ sym (without_push (take j (unheld_numbers old)) n old)
          ∙ ap (λ (ns : List ℕ). without_all ns old) (sym next.0);
      left = ap unheld_numbers is ∙ unheld-evicted now n rising (sym first) ∙ ap (drop 1) so_far.left ∙ next.2;
      few = next.1;
      ahead = subst (λ (b : BookView). AreAhead (n + 1) b.cursors b.rows) (sym is)
          (ahead-alike (n + 1) now.cursors (without_product n now).cursors (filter (is_other n) now.rows) (λ m. sym (is_held-loss n _ m now.cursors)) (ahead_next now.cursors n now.rows ahead));
      held = ap held_products is ∙ held-evicted now n there.1 ∙ so_far.held;
    }

-- there is no room after that either
pub evicted_more : (old now after : BookView) (need from n j : ℕ) → Evicted old now need from j → from ≤ n → IsNext old now after n j → room_for (products after) need ≡ None
    → Evicted old after need (n + 1) (j + 1)
evicted_more old now after need from n j so_far above next none = record {
  now_is = next.now_is;
  left = next.left;
  few = next.few;
  ahead = next.ahead;
  count = omega (arith, so_far.count);
  held = next.held;
  needed = λ i h. elim (cases_lt i (j + 1)) [
    | inl below ↦ so_far.needed i below
    | inr up ↦
        (let same : j + 1 ≡ i = omega arith in ap (λ (k : ℕ). room_for (products (without_oldest k old)) need) (sym same) ∙ ap (λ (b : BookView). room_for (products b) need) (sym next.now_is) ∙ none)
  ];
}

-- all were evicted that nobody holds: there is room where there is some beside the held products
pub some_room : (old now : BookView) (need from j : ℕ) → Evicted old now need from j → None ≡ first_of (unheld_numbers now) → is_some (room_for (held_products old) need) ≡ true → ⊥
some_room old now need from j so_far none beside =
    let all : held_products now ≡ products now = ap (λ (ks : List Kept). record (products now) { rows = ks }) (all_held now.cursors now.rows (empty (unheld_numbers now) none)) in
    let full : room_for (products now) need ≡ None = ap (λ (b : BookView). room_for (products b) need) so_far.now_is ∙ so_far.needed j (omega arith) in
    false≢true (ap is_some (sym full) ∙ ap (λ (p : ProductsView). is_some (room_for p need)) (sym all ∙ so_far.held) ∙ beside)
  where
    empty : (ns : List ℕ) → None ≡ first_of ns → ns ≡ []
    empty [] e = refl
    empty (n ∷ ns) e = absurd cc

-- evictions leave these as they were
pub record Alike (old new : BookView) : Type 0 where
  pub arena : new.arena ≡ old.arena
  pub bytes : new.bytes ≡ old.bytes
  pub slots : new.slots ≡ old.slots
  pub admitted : new.admitted ≡ old.admitted
  pub last : new.last ≡ old.last
  pub reservations : new.reservations ≡ old.reservations

pub alike_all : (ns : List ℕ) (book : BookView) → Alike book (without_all ns book)
alike_all [] book = record { arena = refl; bytes = refl; slots = refl; admitted = refl; last = refl; reservations = refl }
alike_all (n ∷ ns) book =
    let rest = alike_all ns (without_product n book) in
    record { arena = rest.arena; bytes = rest.bytes; slots = rest.slots; admitted = rest.admitted; last = rest.last; reservations = rest.reservations }

-- where a signature is absent, it is absent from what is left
absent_filter : (signature : List ℕ) (test : Kept → Bool) (rows : List Kept) → kept_with signature rows ≡ None → kept_with signature (filter test rows) ≡ None
absent_filter signature test [] e = refl
absent_filter signature test (k ∷ ks) e =
    let parts = behind (kept_signature signature k) e in
    keep (test k) parts.0 (absent_filter signature test ks parts.1)
  where
    behind : (b : Bool) → cond b (Some k) (kept_with signature ks) ≡ None → (b ≡ false) × (kept_with signature ks ≡ None)
    behind true e = absurd cc
    behind false e = (refl, e)

    keep : (b : Bool) → kept_signature signature k ≡ false → kept_with signature (filter test ks) ≡ None → kept_with signature (cond b (k ∷ filter test ks) (filter test ks)) ≡ None
    keep true here rest = ap (λ (x : Bool). cond x (Some k) (kept_with signature (filter test ks))) here ∙ rest
    keep false here rest = rest

pub absent_all : (signature : List ℕ) (ns : List ℕ) (book : BookView) → kept_with signature book.rows ≡ None → kept_with signature (without_all ns book).rows ≡ None
absent_all signature [] book e = e
absent_all signature (n ∷ ns) book e = absent_all signature ns (without_product n book) (absent_filter signature (is_other n) book.rows e)

-- what there is room for has a place
pub room_is : (o : Option ℕ) → is_some o ≡ true → (place : ℕ) × (o ≡ Some place)
room_is None e = absurd (false≢true e)
room_is (Some place) e = (place, refl)

pub room_none : (o : Option ℕ) → is_some o ≡ false → o ≡ None
room_none None e = refl
room_none (Some place) e = absurd (true≢false e)
