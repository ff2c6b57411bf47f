-- The present rows of a state, and what a book keeps of them.
use Rattle.std.proofs.Common.{◌≡◌, ℕ, zero, suc, ◌+◌, ◌<◌, Bool, true, cond, List, [], ◌∷◌, ◌++◌, length, map, not, ◌||◌, Option, Some, None, refl, sym, ap, ◌∙◌, inl, inr, arith}
use Rattle.std.proofs.Math.Nat.{add-zero}
use Rattle.std.specs.Prelude.{◌==◌, filter, slice_get}
use Rattle.std.specs.List.{find, list_any}
use Rattle.std.proofs.lemmas.Bool.{false≢true, cases_eq, eq-eqb, ne_eqb, le-leb, lt-leb}
use Rattle.std.specs.Option.{option_map}
use Rattle.ldm_types.specs.Arena.{Region}
use Rattle.ldm_model.specs.declared.event.Reply.TheVariants as reply
use Rattle.ldm_model.specs.State.{Row, Reservation, Queued, latest, add_queued, open_ones, queued_from, queued_with, region_of}
use Rattle.ldm_model.specs.State.{reserved_region as state_region}
use Rattle.ldm_model.specs.Evict.{without_place}
use Rattle.ldm_model.specs.Look.{look_reply}
use Rattle.ldm_book.specs.View.{KeptReservation, kept, kept_reservation, open_kept}
use Rattle.ldm_book.specs.Products.{kept_region, at_number, has_number, occupied_by, reserved_region}
use Rattle.ldm_book.specs.Lookup.{kept_signature, kept_with, look_kept}
use Rattle.ldm_book.proofs.EveryLemmas.{find-map}

add_queued-append : (n : ℕ) (row : Row) (place : Option ℕ) (behind more : List Queued) → add_queued n row place (behind ++ more) ≡ add_queued n row place behind ++ more
add_queued-append n row None behind more = refl
add_queued-append n row (Some at) behind more = refl

-- rows behind others keep their numbers
pub queued_from-append : (n : ℕ) (xs ys : List Row) → queued_from n (xs ++ ys) ≡ queued_from n xs ++ queued_from (n + length xs) ys
queued_from-append n [] ys = rw add-zero refl
queued_from-append n (x ∷ xs) ys =
    let rest : queued_from (n + 1) (xs ++ ys) ≡ queued_from (n + 1) xs ++ queued_from (n + suc (length xs)) ys =
    queued_from-append (n + 1) xs ys ∙ ap (λ (k : ℕ). queued_from (n + 1) xs ++ queued_from k ys) (omega arith) in
    ap (add_queued n x x.place) rest ∙ add_queued-append n x x.place (queued_from (n + 1) xs) (queued_from (n + suc (length xs)) ys)

-- a look-up among what is kept
pub queued_with-kept : (signature : List ℕ) (qs : List Queued) → option_map kept (queued_with signature qs) ≡ kept_with signature (map kept qs)
queued_with-kept signature qs = sym (find-map kept (kept_signature signature) qs)

look_reply-kept : (o : Option Queued) → look_reply o ≡ look_kept (option_map kept o)
look_reply-kept None = refl
look_reply-kept (Some q) = refl

-- what a look is answered, by what is kept
pub look-from_kept : (signature : List ℕ) (qs : List Queued) → look_reply (queued_with signature qs) ≡ look_kept (kept_with signature (map kept qs))
look-from_kept signature qs = look_reply-kept (queued_with signature qs) ∙ ap look_kept (queued_with-kept signature qs)

pub none_from_absent : (o : Option Queued) → look_reply o ≡ reply.Absent → o ≡ None
none_from_absent None e = refl
none_from_absent (Some q) e = absurd cc

pub some_from_queued : (o : Option Queued) (n t : ℕ) → look_reply o ≡ reply.Queued n t → (q : Queued) × (o ≡ Some q) × (q.number ≡ n)
some_from_queued None n t e = absurd cc
some_from_queued (Some q) n t e = (q, refl, cc)

-- where the products lie
pub regions-kept : (qs : List Queued) → map region_of qs ≡ map kept_region (map kept qs)
regions-kept [] = refl
regions-kept (q ∷ qs) = ap (λ (rs : List Region). region_of q ∷ rs) (regions-kept qs)

-- what the open reservations are kept as
pub open-kept : (rs : List (Option Reservation)) → open_kept (map (option_map kept_reservation) rs) ≡ map kept_reservation (open_ones rs)
open-kept [] = refl
open-kept (None ∷ rs) = open-kept rs
open-kept (Some v ∷ rs) = ap (λ (vs : List KeptReservation). kept_reservation v ∷ vs) (open-kept rs)

-- and where they lie
pub regions-reserved : (vs : List Reservation) → map reserved_region (map kept_reservation vs) ≡ map state_region vs
regions-reserved [] = refl
regions-reserved (v ∷ vs) = ap (λ (rs : List Region). state_region v ∷ rs) (regions-reserved vs)

-- what occupies the arena
pub occupied-kept : (qs : List Queued) (rs : List (Option Reservation)) → occupied_by (map kept qs) (map (option_map kept_reservation) rs) ≡ map region_of qs ++ map state_region (open_ones rs)
occupied-kept qs rs =
    let reserved = ap (map reserved_region) (open-kept rs) ∙ regions-reserved (open_ones rs) in
    λ i. sym (regions-kept qs) i ++ reserved i

-- whether a present row has another number
abbrev pub other_number : ℕ → Queued → Bool
other_number n q = not (q.number == n)

-- rows behind a number have others
filter_above : (n m : ℕ) (rows : List Row) → n < m → filter (other_number n) (queued_from m rows) ≡ queued_from m rows
filter_above n m [] h = refl
filter_above n m (row ∷ rows) h = by_place (filter_above n (m + 1) rows (omega arith)) row.place
  where
    by_place : filter (other_number n) (queued_from (m + 1) rows) ≡ queued_from (m + 1) rows → (place : Option ℕ)
        → filter (other_number n) (add_queued m row place (queued_from (m + 1) rows)) ≡ add_queued m row place (queued_from (m + 1) rows)
    by_place rest None = rest
    by_place rest (Some at) =
        let q : Queued = record { number = m; product = row.product; time = row.time; place = at } in
        ap (λ (b : Bool). cond (not b) (q ∷ filter (other_number n) (queued_from (m + 1) rows)) (filter (other_number n) (queued_from (m + 1) rows))) (ne_eqb m n (λ e. omega (arith, e)))
        ∙ ap (λ (qs : List Queued). q ∷ qs) rest

-- evicting a row leaves the others
pub queued-without : (i m : ℕ) (rows : List Row) → queued_from m (without_place rows i) ≡ filter (other_number (m + i)) (queued_from m rows)
queued-without i m [] = refl
queued-without zero m (row ∷ rows) = by_place row.place
  where
    by_place : (place : Option ℕ) → queued_from (m + 1) rows ≡ filter (other_number (m + 0)) (add_queued m row place (queued_from (m + 1) rows))
    by_place None = sym (filter_above (m + 0) (m + 1) rows (omega arith))
    by_place (Some at) =
        let q : Queued = record { number = m; product = row.product; time = row.time; place = at } in
        sym (ap (λ (b : Bool). cond (not b) (q ∷ filter (other_number (m + 0)) (queued_from (m + 1) rows)) (filter (other_number (m + 0)) (queued_from (m + 1) rows))) (eq-eqb m (m + 0) (omega arith))
        ∙ filter_above (m + 0) (m + 1) rows (omega arith))
queued-without (suc i) m (row ∷ rows) =
    let number : m + 1 + i ≡ m + suc i = omega arith in
    by_place (queued-without i (m + 1) rows ∙ ap (λ (n : ℕ). filter (other_number n) (queued_from (m + 1) rows)) number) row.place
  where
    by_place : queued_from (m + 1) (without_place rows i) ≡ filter (other_number (m + suc i)) (queued_from (m + 1) rows) → (place : Option ℕ)
        → add_queued m row place (queued_from (m + 1) (without_place rows i)) ≡ filter (other_number (m + suc i)) (add_queued m row place (queued_from (m + 1) rows))
    by_place rest None = rest
    by_place rest (Some at) =
        let q : Queued = record { number = m; product = row.product; time = row.time; place = at } in
        ap (λ (qs : List Queued). q ∷ qs) rest
        ∙ sym (ap (λ (b : Bool). cond (not b) (q ∷ filter (other_number (m + suc i)) (queued_from (m + 1) rows)) (filter (other_number (m + suc i)) (queued_from (m + 1) rows)))
        (ne_eqb m (m + suc i) (λ e. omega (arith, e))))

-- the present row of a number: the first of at least that number
pub record IsPresent (n m : ℕ) (rows : List Row) : Type 0 where
  pub index : ℕ
  pub row : Row
  pub place : ℕ
  pub number : n ≡ m + index
  pub at : slice_get rows index ≡ Some row
  pub found : find (λ (q : Queued). at_number n (kept q)) (queued_from m rows) ≡ Some (record { number = n; product = row.product; time = row.time; place = place })

-- the first present row of at least a number
abbrev first_at : ℕ → List Queued → Option Queued
first_at n qs = find (λ (q : Queued). at_number n (kept q)) qs

pub is_present : (n m : ℕ) (rows : List Row) → list_any (has_number n) (map kept (queued_from m rows)) ≡ true → IsPresent n m rows
is_present n m [] h = absurd (false≢true h)
is_present n m (row ∷ rows) h = by_place (is_present n (m + 1) rows) row.place refl h
  where
    by_place : (list_any (has_number n) (map kept (queued_from (m + 1) rows)) ≡ true → IsPresent n (m + 1) rows) → (place : Option ℕ) → row.place ≡ place
        → list_any (has_number n) (map kept (add_queued m row place (queued_from (m + 1) rows))) ≡ true → IsPresent n m (row ∷ rows)
    by_place more None is h =
        let rest = more h in
        record {
          index = suc rest.index;
          row = rest.row;
          place = rest.place;
          number = omega (arith, rest.number);
          at = rest.at;
          found = ap (λ (p : Option ℕ). first_at n (add_queued m row p (queued_from (m + 1) rows))) is ∙ rest.found;
        }
    by_place more (Some at) is h =
        let q : Queued = record { number = m; product = row.product; time = row.time; place = at } in
        let behind = first_at n (queued_from (m + 1) rows) in
        elim (cases_eq m n) [
          | inl same ↦ record {
            index = 0;
            row = row;
            place = at;
            number = omega arith;
            at = refl;
            found = ap (λ (p : Option ℕ). first_at n (add_queued m row p (queued_from (m + 1) rows))) is ∙ ap (λ (b : Bool). cond b (Some q) behind) (le-leb n m (omega arith))
                ∙ ap (λ (k : ℕ). Some (record { number = k; product = row.product; time = row.time; place = at })) same;
          }
          | inr other ↦
              let rest = more (ap (λ (b : Bool). b || list_any (has_number n) (map kept (queued_from (m + 1) rows))) (sym (ne_eqb m n other)) ∙ h) in
              record {
                index = suc rest.index;
                row = rest.row;
                place = rest.place;
                number = omega (arith, rest.number);
                at = rest.at;
                found = ap (λ (p : Option ℕ). first_at n (add_queued m row p (queued_from (m + 1) rows))) is ∙ ap (λ (b : Bool). cond b (Some q) behind) (lt-leb n m (omega (arith, rest.number)))
                    ∙ rest.found;
              }
        ]

-- evicting changes neither the end nor the times
pub length-without_place : (rows : List Row) (n : ℕ) → length (without_place rows n) ≡ length rows
length-without_place [] n = refl
length-without_place (row ∷ rows) zero = refl
length-without_place (row ∷ rows) (suc n) = ap suc (length-without_place rows n)

pub latest-without_place : (rows : List Row) (before : Option ℕ) (n : ℕ) → latest before (without_place rows n) ≡ latest before rows
latest-without_place [] before n = refl
latest-without_place (row ∷ rows) before zero = refl
latest-without_place (row ∷ rows) before (suc n) = latest-without_place rows (Some row.time) n
