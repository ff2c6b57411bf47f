-- A product that a cursor holds is queued: no event of the queue changes that.
use Rattle.std.proofs.Common.{◌≡◌, ◌∙◌, ℕ, zero, suc, ◌+◌, Bool, true, false, cond, not, ◌||◌, List, [], ◌∷◌, ◌++◌, map, filter, take, Option, Some, None, refl, sym, ap, inl, inr, arith}
use Rattle.std.specs.Prelude.{◌⊎◌, ◌==◌, ◌&&◌, nat_le, is_some, set, slice_get, slice_index_or}
use Rattle.std.specs.List.{list_any, find, AllByRecursion}
use Rattle.std.proofs.lemmas.Bool.{false≢true, true≢false, or_cases, or_left, or_right}
use Rattle.ldm_types.specs.Feed.{feeds_meet}
use Rattle.ldm_model.specs.State.{State, Row, Cursor, Queued, queued, queued_from, add_queued, place_of_row, is_queued}
use Rattle.ldm_model.specs.Outcome.{Outcome}
use Rattle.ldm_model.specs.Evict.{holds, is_held, numbers, unheld, without_place, with_loss, evict, evict_row, evict_all}
use Rattle.ldm_types.specs.Cursors.{is_number}
use Rattle.ldm_model.specs.Cursor.{if_owned, cursor_at, cursor_of, with_place, on_cursor, on_held}

-- whether the row of that number is present among these rows
abbrev pub present : List Row → ℕ → Bool
present rows n = is_some (place_of_row (slice_get rows n))

pub present-append : (rows more : List Row) (n : ℕ) → present rows n ≡ true → present (rows ++ more) n ≡ true
present-append [] more n h = absurd (false≢true h)
present-append (row ∷ rows) more zero h = h
present-append (row ∷ rows) more (suc n) h = present-append rows more n h

pub present-without_place : (rows : List Row) (m n : ℕ) → (m ≡ n → ⊥) → present rows n ≡ true → present (without_place rows m) n ≡ true
present-without_place [] m n other h = absurd (false≢true h)
present-without_place (row ∷ rows) zero zero other h = absurd (other refl)
present-without_place (row ∷ rows) zero (suc n) other h = h
present-without_place (row ∷ rows) (suc m) zero other h = h
present-without_place (row ∷ rows) (suc m) (suc n) other h = present-without_place rows m n (λ e. other (ap (λ (i : ℕ). suc i) e)) h

-- each product that a cursor holds is queued
abbrev pub HoldsQueued : State → Type 0
HoldsQueued s = (n : ℕ) → is_held s n ≡ true → is_queued s n ≡ true

holds-with_loss : (m feed n : ℕ) (place : Option Cursor) → holds n (with_loss m feed place) ≡ holds n place
holds-with_loss m feed n None = refl
holds-with_loss m feed n (Some cursor) = by_test (nat_le cursor.position m && feeds_meet cursor.feed feed)
  where
    by_test : (b : Bool) → holds n (cond b (Some (record cursor { untold = cursor.untold ++ m ∷ [] })) (Some cursor)) ≡ holds n (Some cursor)
    by_test true = refl
    by_test false = refl

list_any-with_loss : (m feed n : ℕ) (cursors : List (Option Cursor)) → list_any (holds n) (map (with_loss m feed) cursors) ≡ list_any (holds n) cursors
list_any-with_loss m feed n [] = refl
list_any-with_loss m feed n (place ∷ cursors) = λ i. holds-with_loss m feed n place i || list_any-with_loss m feed n cursors i

-- an eviction ends no hold and begins none
pub is_held-evict : (s : State) (m n : ℕ) → is_held (evict s m) n ≡ is_held s n
is_held-evict s m n = by_row (slice_get s.rows m)
  where
    by_row : (row : Option Row) → is_held (evict_row s m row) n ≡ is_held s n
    by_row None = refl
    by_row (Some row) = list_any-with_loss m row.product.info.feed n s.cursors

-- and takes no other product out
pub is_queued-evict : (s : State) (m n : ℕ) → (m ≡ n → ⊥) → is_queued s n ≡ true → is_queued (evict s m) n ≡ true
is_queued-evict s m n other h = by_row (slice_get s.rows m)
  where
    by_row : (row : Option Row) → is_queued (evict_row s m row) n ≡ true
    by_row None = h
    by_row (Some row) = present-without_place s.rows m n other h

pub HoldsQueued-evict : (s : State) (m : ℕ) → HoldsQueued s → is_held s m ≡ false → HoldsQueued (evict s m)
HoldsQueued-evict s m kept free n h =
    let still : is_held s n ≡ true = sym (is_held-evict s m n) ∙ h in
    is_queued-evict s m n (λ same. true≢false (sym still ∙ ap (is_held s) (sym same) ∙ free)) (kept n still)

-- these rows are held by nobody
abbrev pub AreFree : State → List ℕ → Type 0
AreFree s ms = AllByRecursion (λ m. is_held s m ≡ false) ms

AreFree-evict : (s : State) (m : ℕ) (ms : List ℕ) → AreFree s ms → AreFree (evict s m) ms
AreFree-evict s m [] free = tt
AreFree-evict s m (k ∷ ks) free = (is_held-evict s m k ∙ free.0, AreFree-evict s m ks free.1)

pub HoldsQueued-evict_all : (ms : List ℕ) (s : State) → AreFree s ms → HoldsQueued s → HoldsQueued (evict_all s ms)
HoldsQueued-evict_all [] s free kept = kept
HoldsQueued-evict_all (m ∷ ms) s free kept = HoldsQueued-evict_all ms (evict s m) (AreFree-evict s m ms free.1) (HoldsQueued-evict s m kept free.0)

pub AreFree-take : (s : State) (j : ℕ) (ms : List ℕ) → AreFree s ms → AreFree s (take j ms)
AreFree-take s zero ms free = tt
AreFree-take s (suc j) [] free = tt
AreFree-take s (suc j) (m ∷ ms) free = (free.0, AreFree-take s j ms free.1)

AreFree-cons : (s : State) (n : ℕ) (ns : List ℕ) (b : Bool) → is_held s n ≡ b → AreFree s ns → AreFree s (cond (not b) (n ∷ ns) ns)
AreFree-cons s n ns true e free = free
AreFree-cons s n ns false e free = (e, free)

AreFree-filter : (s : State) (ns : List ℕ) → AreFree s (filter (λ n. not (is_held s n)) ns)
AreFree-filter s [] = tt
AreFree-filter s (n ∷ ns) = AreFree-cons s n (filter (λ m. not (is_held s m)) ns) (is_held s n) refl (AreFree-filter s ns)

pub AreFree-unheld : (s : State) → AreFree s (unheld s)
AreFree-unheld s = AreFree-filter s (numbers s)

pub HoldsQueued-append : (s : State) (more : List Row) → HoldsQueued s → HoldsQueued (record s { rows = s.rows ++ more })
HoldsQueued-append s more kept n h = present-append s.rows more n (kept n h)

-- who holds a product once a place is changed: the place, or who held it before
list_any-set : (n k : ℕ) (place : Option Cursor) (cursors : List (Option Cursor)) → list_any (holds n) (set cursors k place) ≡ true → (holds n place ≡ true) ⊎ (list_any (holds n) cursors ≡ true)
list_any-set n k place [] h = inr h
list_any-set n zero place (other ∷ cursors) h = elim (or_cases (holds n place) (list_any (holds n) cursors) h) [ inl e ↦ inl e | inr e ↦ inr (or_right (holds n other) (list_any (holds n) cursors) e) ]
list_any-set n (suc k) place (other ∷ cursors) h = elim (or_cases (holds n other) (list_any (holds n) (set cursors k place)) h) [
  | inl e ↦ inr (or_left (holds n other) (list_any (holds n) cursors) e)
  | inr e ↦ elim (list_any-set n k place cursors e) [ inl x ↦ inl x | inr x ↦ inr (or_right (holds n other) (list_any (holds n) cursors) x) ]
]

pub HoldsQueued-place : (s : State) (k : ℕ) (place : Option Cursor) → HoldsQueued s → ((n : ℕ) → holds n place ≡ true → is_queued s n ≡ true) → HoldsQueued (with_place s k place)
HoldsQueued-place s k place kept new n h = elim (list_any-set n k place s.cursors h) [ inl e ↦ new n e | inr e ↦ kept n e ]

pub list_any-at : (n k : ℕ) (cursor : Cursor) (cursors : List (Option Cursor)) → slice_index_or cursors k None ≡ Some cursor → holds n (Some cursor) ≡ true → list_any (holds n) cursors ≡ true
list_any-at n k cursor [] at h = absurd cc
list_any-at n zero cursor (place ∷ cursors) at h = or_left (holds n place) (list_any (holds n) cursors) (ap (holds n) at ∙ h)
list_any-at n (suc k) cursor (place ∷ cursors) at h = or_right (holds n place) (list_any (holds n) cursors) (list_any-at n k cursor cursors at h)

pub cursor-owned : (actor : ℕ) (place : Option Cursor) (cursor : Cursor) → if_owned actor place ≡ Some cursor → place ≡ Some cursor
cursor-owned actor None cursor e = e
cursor-owned actor (Some other) cursor e = by_test (other.actor == actor) e
  where
    by_test : (b : Bool) → cond b (Some other) None ≡ Some cursor → Some other ≡ Some cursor
    by_test true e = e
    by_test false e = absurd cc

-- a product that an actor's cursor holds is queued
pub queued-held : (s : State) (actor k n : ℕ) (cursor : Cursor) → HoldsQueued s → cursor_of s actor k ≡ Some cursor → is_number n cursor.held ≡ true → is_queued s n ≡ true
queued-held s actor k n cursor kept own h = kept n (list_any-at n k cursor s.cursors (cursor-owned actor (cursor_at s k) cursor own) h)

pub HoldsQueued-on_cursor : (s : State) (place : Option Cursor) (act : Cursor → Outcome) → HoldsQueued s → ((cursor : Cursor) → place ≡ Some cursor → HoldsQueued (act cursor).state) → HoldsQueued (on_cursor s place act).state
HoldsQueued-on_cursor s None act kept each = kept
HoldsQueued-on_cursor s (Some cursor) act kept each = each cursor refl

pub HoldsQueued-on_held : (s : State) (held : Option ℕ) (act : ℕ → Outcome) → HoldsQueued s → ((n : ℕ) → HoldsQueued (act n).state) → HoldsQueued (on_held s held act).state
HoldsQueued-on_held s None act kept each = kept
HoldsQueued-on_held s (Some n) act kept each = each n

-- a row of that number stands among these, the first of which has another number, and is present
abbrev IsAmong : ℕ → List Row → Queued → Type 0
IsAmong number rows q = (i : ℕ) × (q.number ≡ number + i) × (present rows i ≡ true)

IsAmong-cons : (number : ℕ) (row : Row) (rows : List Row) (q : Queued) → IsAmong (number + 1) rows q → IsAmong number (row ∷ rows) q
IsAmong-cons number row rows q there = (suc there.0, omega (arith, there.1), there.2)

-- a row that is found among the present ones is one of them
find-queued : (test : Queued → Bool) (number : ℕ) (rows : List Row) (q : Queued) → find test (queued_from number rows) ≡ Some q → IsAmong number rows q
find-queued test number [] q found = absurd cc
find-queued test number (row ∷ rows) q found = by_place (find-queued test (number + 1) rows q) row.place refl found
  where
    first : ℕ → Queued
    first place = record { number = number; product = row.product; time = row.time; place = place }

    by_test : (find test (queued_from (number + 1) rows) ≡ Some q → IsAmong (number + 1) rows q) → (place : ℕ) (b : Bool) → row.place ≡ Some place → cond b (Some (first place)) (find test (queued_from (number + 1) rows)) ≡ Some q → IsAmong number (row ∷ rows) q
    by_test more place true at found = (0, ap (λ (o : Option Queued). number_of o) (sym found) ∙ sym (omega arith), ap is_some at)
      where
        number_of : Option Queued → ℕ
        number_of None = 0
        number_of (Some r) = r.number
    by_test more place false at found = IsAmong-cons number row rows q (more found)

    by_place : (find test (queued_from (number + 1) rows) ≡ Some q → IsAmong (number + 1) rows q) → (place : Option ℕ) → row.place ≡ place → find test (add_queued number row place (queued_from (number + 1) rows)) ≡ Some q → IsAmong number (row ∷ rows) q
    by_place more None at found = IsAmong-cons number row rows q (more found)
    by_place more (Some place) at found = by_test more place (test (first place)) at found

pub is_queued-found : (s : State) (test : Queued → Bool) (q : Queued) → find test (queued s) ≡ Some q → is_queued s q.number ≡ true
is_queued-found s test q found =
    let there = find-queued test 0 s.rows q found in
    ap (present s.rows) (there.1 ∙ omega arith) ∙ there.2
