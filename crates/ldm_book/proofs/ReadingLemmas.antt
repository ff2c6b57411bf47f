-- What is always true of the cursors, after each change of them or of the products.
use Rattle.std.proofs.Common.{◌≡◌, ℕ, zero, suc, ◌+◌, ◌^◌, ◌<◌, ◌≤◌, ◌||◌, Bool, true, false, cond, not, List, [], ◌∷◌, ◌++◌, length}
use Rattle.std.proofs.Common.{map, set, Option, Some, None, refl, sym, ap, subst, ◌∙◌, inl, inr, arith}
use Rattle.std.specs.Prelude.{◌==◌, ◌&&◌, nat_le, filter}
use Rattle.std.specs.List.{All, AllByRecursion, Any, find, list_any}
use Rattle.std.specs.Option.{IfSome, option_map}
use Rattle.std.proofs.lemmas.Bool.{false≢true, true≢false, eq-eqb, ne_eqb, le-leb, lt-leb, cases_eq, cases_lt, or_parts}
use Rattle.std.proofs.lemmas.List.{length-append}
use Rattle.ldm_types.specs.Cursors.{KeptCursor, Losses, Places}
use Rattle.ldm_types.specs.Feed.{feeds_meet}
use Rattle.ldm_cursor.specs.Places.{CountsBelow, after_hold, with_change, HasCountsBelow, cursor_at, cursor_with_loss, holds, is_held, with_loss, with_one_more}
use Rattle.ldm_book.specs.View.{Kept}
use Rattle.ldm_book.specs.Products.{at_number, has_number, is_other}
use Rattle.ldm_book.specs.Readers.{IsReading, IsPlaceReading, AreReading}

-- one place changed
pub reading-set : (a : ℕ) (rows : List Kept) (cs : Places) (k : ℕ) (place : Option KeptCursor) → AreReading a rows cs → IsPlaceReading a rows place → AreReading a rows (set cs k place)
reading-set a rows [] k place all new = tt
reading-set a rows (c ∷ cs) zero place all new = (new, all.1)
reading-set a rows (c ∷ cs) (suc k) place all new = (all.0, reading-set a rows cs k place all.1 new)

-- the cursor of a place
pub reading-at : (a : ℕ) (rows : List Kept) (cs : Places) (k : ℕ) (c : KeptCursor) → AreReading a rows cs → cursor_at cs k ≡ Some c → IsReading a rows c
reading-at a rows [] k c all e = absurd cc
reading-at a rows (place ∷ cs) zero c all e = subst (IsPlaceReading a rows) e all.0
reading-at a rows (place ∷ cs) (suc k) c all e = reading-at a rows cs k c all.1 e

-- what holds of each place
each : (P Q : Option KeptCursor → Type 0) (cs : Places) → ((place : Option KeptCursor) → P place → Q place) → AllByRecursion P cs → AllByRecursion Q cs
each P Q [] f all = tt
each P Q (c ∷ cs) f all = (f c all.0, each P Q cs f all.1)

all_of : (P : Option KeptCursor → Type 0) (cs : Places) → AllByRecursion P cs → All P cs
all_of P [] all k d inside = absurd (omega arith)
all_of P (c ∷ cs) all zero d inside = all.0
all_of P (c ∷ cs) all (suc k) d inside = all_of P cs all.1 k d (omega arith)

-- counts stay small
pub reading-counts : (a : ℕ) (rows : List Kept) (cs : Places) → a < 2 ^ 63 → AreReading a rows cs → CountsBelow (2 ^ 63) cs
reading-counts a rows cs small all =
    all_of (λ (place : Option KeptCursor). IfSome place (HasCountsBelow (2 ^ 63))) cs
    (each (IsPlaceReading a rows) (λ (place : Option KeptCursor). IfSome place (HasCountsBelow (2 ^ 63))) cs below all)
  where
    fewer : (o : Option Losses) (lost : ℕ) → lost ≤ a → IfSome o (λ (l : Losses). l.count ≤ lost) → IfSome o (λ (l : Losses). l.count < 2 ^ 63)
    fewer None lost h few = tt
    fewer (Some l) lost h few = omega arith

    below : (place : Option KeptCursor) → IsPlaceReading a rows place → IfSome place (HasCountsBelow (2 ^ 63))
    below None reading = tt
    below (Some c) reading = record {
      untold = fewer c.untold c.lost (omega (arith, reading.lost)) reading.untold;
      given = omega (arith, reading.given, reading.position);
      lost = omega (arith, reading.lost);
    }

-- one product more
any_push : (m : ℕ) (rows : List Kept) (new : Kept) → list_any (has_number m) rows ≡ true → list_any (has_number m) (rows ++ new ∷ []) ≡ true
any_push m [] new h = absurd (false≢true h)
any_push m (k ∷ ks) new h = by_test (k.number == m) (any_push m ks new) h
  where
    by_test : (b : Bool) → (list_any (has_number m) ks ≡ true → list_any (has_number m) (ks ++ new ∷ []) ≡ true) → (b || list_any (has_number m) ks) ≡ true
        → (b || list_any (has_number m) (ks ++ new ∷ [])) ≡ true
    by_test true rest h = refl
    by_test false rest h = rest h

pub reading-push : (a : ℕ) (rows : List Kept) (new : Kept) (cs : Places) → AreReading a rows cs → AreReading (a + 1) (rows ++ new ∷ []) cs
reading-push a rows new cs all = each (IsPlaceReading a rows) (IsPlaceReading (a + 1) (rows ++ new ∷ [])) cs more all
  where
    still : (o : Option ℕ) → IfSome o (λ m. list_any (has_number m) rows ≡ true) → IfSome o (λ m. list_any (has_number m) (rows ++ new ∷ []) ≡ true)
    still None h = tt
    still (Some m) h = any_push m rows new h

    more : (place : Option KeptCursor) → IsPlaceReading a rows place → IsPlaceReading (a + 1) (rows ++ new ∷ []) place
    more None reading = tt
    more (Some c) reading = record {
      given = reading.given;
      position = omega (arith, reading.position);
      lost = omega (arith, reading.lost, length-append rows (new ∷ []));
      untold = reading.untold;
      held = still c.held reading.held;
    }

-- a product less
pub fewer_left : (n : ℕ) (rows : List Kept) → list_any (has_number n) rows ≡ true → suc (length (filter (is_other n) rows)) ≤ length rows
fewer_left n [] h = absurd (false≢true h)
fewer_left n (k ∷ ks) h = by_test (k.number == n) (fewer_left n ks) (at_most ks) h
  where
    at_most : (rows : List Kept) → length (filter (is_other n) rows) ≤ length rows
    at_most [] = omega arith
    at_most (r ∷ rs) = keep (r.number == n) (at_most rs)
      where
        keep : (b : Bool) → length (filter (is_other n) rs) ≤ length rs → length (cond (not b) (r ∷ filter (is_other n) rs) (filter (is_other n) rs)) ≤ length (r ∷ rs)
        keep true rest = omega arith
        keep false rest = omega arith

    by_test : (b : Bool) → (list_any (has_number n) ks ≡ true → suc (length (filter (is_other n) ks)) ≤ length ks) → length (filter (is_other n) ks) ≤ length ks
        → (b || list_any (has_number n) ks) ≡ true
        → suc (length (cond (not b) (k ∷ filter (is_other n) ks) (filter (is_other n) ks))) ≤ length (k ∷ ks)
    by_test true rest most h = omega arith
    by_test false rest most h = let less = rest h in omega arith

-- another product is still there
any_left : (n m : ℕ) (rows : List Kept) → (n ≡ m → ⊥) → list_any (has_number m) rows ≡ true → list_any (has_number m) (filter (is_other n) rows) ≡ true
any_left n m [] apart h = absurd (false≢true h)
any_left n m (k ∷ ks) apart h = elim (cases_eq k.number n) [
  | inl same ↦
      let other : (k.number == m) ≡ false = ne_eqb k.number m (λ e. apart (sym same ∙ e)) in
      ap (λ (b : Bool). list_any (has_number m) (cond (not b) (k ∷ filter (is_other n) ks) (filter (is_other n) ks))) (eq-eqb k.number n same)
      ∙ any_left n m ks apart (ap (λ (b : Bool). b || list_any (has_number m) ks) (sym other) ∙ h)
  | inr differs ↦
      ap (λ (b : Bool). list_any (has_number m) (cond (not b) (k ∷ filter (is_other n) ks) (filter (is_other n) ks))) (ne_eqb k.number n differs)
      ∙ by_test (k.number == m) (any_left n m ks apart) h
]
  where
    by_test : (b : Bool) → (list_any (has_number m) ks ≡ true → list_any (has_number m) (filter (is_other n) ks) ≡ true) → (b || list_any (has_number m) ks) ≡ true
        → (b || list_any (has_number m) (filter (is_other n) ks)) ≡ true
    by_test true rest h = refl
    by_test false rest h = rest h

module _ (a n feed : ℕ) (rows : List Kept) (there : list_any (has_number n) rows ≡ true) where
  held_still : (o : Option ℕ) (c : KeptCursor) → c.held ≡ o → holds n (Some c) ≡ false → IfSome o (λ m. list_any (has_number m) rows ≡ true)
      → IfSome o (λ m. list_any (has_number m) (filter (is_other n) rows) ≡ true)
  held_still None c is free h = tt
  held_still (Some m) c is free h =
      any_left n m rows (λ same. true≢false (sym (eq-eqb m n (sym same)) ∙ number is free)) h
    where
      number : c.held ≡ Some m → holds n (Some c) ≡ false → (m == n) ≡ false
      number is free = sym (ap (λ (o : Option ℕ). is_number_of o) is) ∙ free
        where
          is_number_of : Option ℕ → Bool
          is_number_of None = false
          is_number_of (Some x) = x == n

  untold_more : (o : Option Losses) (lost : ℕ) → IfSome o (λ (l : Losses). l.count ≤ lost) → (with_one_more n o).count ≤ lost + 1
  untold_more None lost h = omega arith
  untold_more (Some l) lost h = omega arith

  place_left : (place : Option KeptCursor) → holds n place ≡ false → IsPlaceReading a rows place → IsPlaceReading a (filter (is_other n) rows) (with_loss n feed place)
  place_left None free reading = tt
  place_left (Some c) free reading = by_test (nat_le c.position n && feeds_meet c.feed feed)
    where
      by_test : (b : Bool) → IsReading a (filter (is_other n) rows) (cond b (cursor_with_loss n c) c)
      by_test true = record {
        given = reading.given;
        position = reading.position;
        lost = omega (arith, reading.lost, fewer_left n rows there);
        untold = untold_more c.untold c.lost reading.untold;
        held = held_still c.held c refl free reading.held;
      }
      by_test false = record {
        given = reading.given;
        position = reading.position;
        lost = omega (arith, reading.lost, fewer_left n rows there);
        untold = reading.untold;
        held = held_still c.held c refl free reading.held;
      }

  pub reading-loss : (cs : Places) → is_held n cs ≡ false → AreReading a rows cs → AreReading a (filter (is_other n) rows) (map (with_loss n feed) cs)
  reading-loss [] free all = tt
  reading-loss (place ∷ cs) free all =
      let parts = or_parts (holds n place) (is_held n cs) free in
      (place_left place parts.0 all.0, reading-loss cs parts.1 all.1)

-- a product of a number is there
pub any_of : (n : ℕ) (rows : List Kept) → list_any (has_number n) rows ≡ true → Any (λ (k : Kept). k.number ≡ n) rows
any_of n [] there = absurd (false≢true there)
any_of n (k ∷ ks) there = elim (cases_eq k.number n) [
  | inl same ↦ (0, k, omega arith, refl, same)
  | inr other ↦ (let rest = any_of n ks (ap (λ (b : Bool). b || list_any (has_number n) ks) (sym (ne_eqb k.number n other)) ∙ there) in (suc rest.0, rest.1, omega (arith, rest.2), rest.3, rest.4))
]

-- a search for its number finds one
pub found_any : (n : ℕ) (rows : List Kept) → list_any (has_number n) rows ≡ true → find (at_number n) rows ≡ None → ⊥
found_any n [] there none = false≢true there
found_any n (k ∷ ks) there none = elim (cases_lt k.number n) [
  | inl before ↦
      found_any n ks (ap (λ (b : Bool). b || list_any (has_number n) ks) (sym (ne_eqb k.number n (λ e. omega (arith, e)))) ∙ there)
      (ap (λ (b : Bool). cond b (Some k) (find (at_number n) ks)) (sym (lt-leb n k.number before)) ∙ none)
  | inr here ↦ (let now : find (at_number n) (k ∷ ks) ≡ Some k = ap (λ (b : Bool). cond b (Some k) (find (at_number n) ks)) (le-leb n k.number here) in absurd cc)
]

-- a cursor holds a product
pub reading-hold : (a : ℕ) (rows : List Kept) (cs : Places) (k n : ℕ) (x : KeptCursor) → AreReading a rows cs → cursor_at cs k ≡ Some x → x.position ≤ n → n < a → list_any (has_number n) rows ≡ true
    → AreReading a rows (with_change cs k (after_hold n))
reading-hold a rows cs k n x all at reached below there =
    let reading = reading-at a rows cs k x all at in
    reading-set a rows cs k (option_map (after_hold n) (cursor_at cs k)) all
    (subst (λ (o : Option KeptCursor). IsPlaceReading a rows (option_map (after_hold n) o)) (sym at)
    (record {
      given = omega (arith, reading.given);
      position = omega arith;
      lost = reading.lost;
      untold = reading.untold;
      held = there;
    }))

-- what a cursor holds is there
pub held_at_there : (a : ℕ) (rows : List Kept) (cs : Places) (k n : ℕ) (x : KeptCursor) → AreReading a rows cs → cursor_at cs k ≡ Some x → x.held ≡ Some n → list_any (has_number n) rows ≡ true
held_at_there a rows cs k n x all at held = subst (λ (o : Option ℕ). IfSome o (λ m. list_any (has_number m) rows ≡ true)) held (reading-at a rows cs k x all at).held
