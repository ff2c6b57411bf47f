-- What nobody holds, and evicting the oldest of it, for a book and for the state that it stands for.
use Rattle.std.proofs.Common.{◌≡◌, ℕ, zero, suc, ◌+◌, ◌<◌, ◌≤◌, Bool, true, false, cond, ltb, not, List, [], ◌∷◌, length, map, take, drop, Option, Some, None, refl, sym, ap, subst, ◌∙◌, arith}
use Rattle.std.specs.Prelude.{◌&&◌, filter, is_some}
use Rattle.std.specs.List.{find, range_with_len}
use Rattle.std.proofs.lemmas.List.{length-map}
use Rattle.ldm_types.specs.Arena.{Region, fit}
use Rattle.ldm_types.specs.Cursors.{Places}
use Rattle.ldm_cursor.specs.Places as kept_places
use Rattle.ldm_model.specs.State.{State, Queued, occupied, queued, reserved, slots_taken}
use Rattle.ldm_model.specs.Room.{fit_in, has_room}
use Rattle.ldm_model.specs.Evict.{is_held, unheld, evict, evict_all}
use Rattle.ldm_model.specs.Insert.{after_evicting, evictions}
use Rattle.ldm_book.specs.View.{BookView, Kept, KeptReservation, Reservations, kept, kept_reservation, open_kept}
use Rattle.ldm_book.specs.Products.{AreRising, is_other, kept_number, occupied_by, occupied_in, room_for, taken_in}
use Rattle.ldm_book.specs.Readers.{first_of, free_numbers, is_kept_free, products, unheld_numbers, without_all, without_oldest, without_product}
use Rattle.ldm_book.specs.Stands.{StandsFor}
use Rattle.ldm_book.proofs.CursorsLemmas.{is_held-kept}
use Rattle.ldm_book.proofs.EvictLemmas.{StandsFor-evict}
use Rattle.ldm_book.proofs.FreeLemmas.{first-there, rising_left, unheld-evicted}
use Rattle.ldm_book.proofs.QueuedLemmas.{occupied-kept, open-kept}

-- who is held, by what is kept
pub held-stands : (book : BookView) (s : State) (n : ℕ) → StandsFor book s → kept_places.is_held n book.cursors ≡ is_held s n
held-stands book s n stands = ap (λ (cs : Places). kept_places.is_held n cs) stands.cursors ∙ is_held-kept n s.cursors

free-stands : (book : BookView) (s : State) (qs : List Queued) → StandsFor book s → free_numbers book.cursors (map kept qs) ≡ filter (λ n. not (is_held s n)) (map (λ (q : Queued). q.number) qs)
free-stands book s [] stands = refl
free-stands book s (q ∷ qs) stands = by_test (is_held s q.number) (free-stands book s qs stands) (held-stands book s q.number stands)
  where
    by_test : (b : Bool) → free_numbers book.cursors (map kept qs) ≡ filter (λ n. not (is_held s n)) (map (λ (q : Queued). q.number) qs) → kept_places.is_held q.number book.cursors ≡ b
        → map kept_number (cond (not (kept_places.is_held q.number book.cursors)) (kept q ∷ filter (is_kept_free book.cursors) (map kept qs)) (filter (is_kept_free book.cursors) (map kept qs)))
        ≡ cond (not b) (q.number ∷ filter (λ n. not (is_held s n)) (map (λ (q : Queued). q.number) qs)) (filter (λ n. not (is_held s n)) (map (λ (q : Queued). q.number) qs))
    by_test true rest e = ap (λ (x : Bool). map kept_number (cond (not x) (kept q ∷ filter (is_kept_free book.cursors) (map kept qs)) (filter (is_kept_free book.cursors) (map kept qs)))) e ∙ rest
    by_test false rest e =
        ap (λ (x : Bool). map kept_number (cond (not x) (kept q ∷ filter (is_kept_free book.cursors) (map kept qs)) (filter (is_kept_free book.cursors) (map kept qs)))) e
        ∙ ap (λ (ns : List ℕ). q.number ∷ ns) rest

-- the numbers that nobody holds
pub unheld-stands : (book : BookView) (s : State) → StandsFor book s → unheld_numbers book ≡ unheld s
unheld-stands book s stands = ap (free_numbers book.cursors) stands.rows ∙ free-stands book s (queued s) stands

-- evicting the first so many of them
evicting : (j : ℕ) (ns : List ℕ) (book : BookView) (s : State) → unheld_numbers book ≡ ns → AreRising book.rows → StandsFor book s → StandsFor (without_all (take j ns) book) (evict_all s (take j ns))
evicting zero ns book s is rising stands = stands
evicting (suc j) [] book s is rising stands = stands
evicting (suc j) (n ∷ ns) book s is rising stands =
    let first : first_of (unheld_numbers book) ≡ Some n = ap first_of is in
    let there = first-there book.cursors book.rows n first in
    evicting j ns (without_product n book) (evict s n) (unheld-evicted book n rising first ∙ ap (drop 1) is) (rising_left (is_other n) book.rows rising) (StandsFor-evict book s n stands there.0)

pub StandsFor-evicting : (j : ℕ) (book : BookView) (s : State) → AreRising book.rows → StandsFor book s → StandsFor (without_oldest j book) (after_evicting s j)
StandsFor-evicting j book s rising stands =
    let same = unheld-stands book s stands in
    subst (λ (ns : List ℕ). StandsFor (without_oldest j book) (evict_all s (take j ns))) same (evicting j (unheld_numbers book) book s refl rising stands)

-- what occupies the arena
pub occupied-stands : (book : BookView) (s : State) → StandsFor book s → occupied_in (products book) ≡ occupied s
occupied-stands book s stands = (λ i. occupied_by (stands.rows i) (stands.reservations i)) ∙ occupied-kept (queued s) s.reservations

-- the best fit
pub fit-stands : (book : BookView) (s : State) (need : ℕ) → StandsFor book s → fit need (occupied_in (products book)) book.arena ≡ fit_in s need
fit-stands book s need stands =
    ap (λ (rs : List Region). fit need rs book.arena) (occupied-stands book s stands) ∙ ap (fit need (occupied s)) stands.arena

-- how many are reserved
pub count-reserved : (book : BookView) (s : State) → StandsFor book s → length (open_kept book.reservations) ≡ length (reserved s)
count-reserved book s stands =
    ap (λ (rs : Reservations). length (open_kept rs)) stands.reservations ∙ ap (λ (vs : List KeptReservation). length vs) (open-kept s.reservations) ∙ length-map (reserved s) kept_reservation

-- whether a slot is free
taken-stands : (book : BookView) (s : State) → StandsFor book s → ltb (taken_in (products book)) book.slots ≡ ltb (slots_taken s) s.slots
taken-stands book s stands =
    let rows : length book.rows ≡ length (queued s) = ap (λ (ks : List Kept). length ks) stands.rows ∙ length-map (queued s) kept in
    let count : taken_in (products book) ≡ slots_taken s = λ i. rows i + count-reserved book s stands i in
    ap (λ (n : ℕ). ltb n book.slots) count ∙ ap (ltb (slots_taken s)) stands.slots

some_if : (b : Bool) (place : Option ℕ) → is_some (cond b place None) ≡ (b && is_some place)
some_if true place = refl
some_if false place = refl

-- whether there is room
pub room-stands : (book : BookView) (s : State) (need : ℕ) → StandsFor book s → is_some (room_for (products book) need) ≡ has_room s need
room-stands book s need stands =
    some_if (ltb (taken_in (products book)) book.slots) (fit need (occupied_in (products book)) book.arena)
    ∙ ap (λ (b : Bool). b && is_some (fit need (occupied_in (products book)) book.arena)) (taken-stands book s stands)
    ∙ ap (λ (o : Option ℕ). ltb (slots_taken s) s.slots && is_some o) (fit-stands book s need stands)

-- where there is room, it is the best fit
pub room_place : (book : BookView) (s : State) (need place : ℕ) → StandsFor book s → room_for (products book) need ≡ Some place → fit_in s need ≡ Some place
room_place book s need place stands is = sym (fit-stands book s need stands) ∙ by_slot (ltb (taken_in (products book)) book.slots) (fit need (occupied_in (products book)) book.arena) is
  where
    by_slot : (b : Bool) (o : Option ℕ) → cond b o None ≡ Some place → o ≡ Some place
    by_slot true o is = is
    by_slot false o is = absurd cc

-- the first number that passes, where none before it does
find_first : (p : ℕ → Bool) (m a i : ℕ) → i < m → ((k : ℕ) → k < i → p (a + k) ≡ false) → p (a + i) ≡ true → find p (range_with_len a m) ≡ Some (a + i)
find_first p zero a i within before passes = absurd (omega arith)
find_first p (suc m) a zero within before passes =
    let here : a + 0 ≡ a = omega arith in
    ap (λ (b : Bool). cond b (Some a) (find p (range_with_len (a + 1) m))) (ap p (sym here) ∙ passes) ∙ ap (λ (k : ℕ). Some k) (sym here)
find_first p (suc m) a (suc i) within before passes =
    let here : a ≡ a + 0 = omega arith in
    let there : a + 1 + i ≡ a + suc i = omega arith in
    ap (λ (b : Bool). cond b (Some a) (find p (range_with_len (a + 1) m))) (ap p here ∙ before 0 (omega arith))
    ∙ find_first p m (a + 1) i (omega arith) (λ k h. let later : a + 1 + k ≡ a + suc k = omega arith in ap p later ∙ before (suc k) (omega arith)) (ap p there ∙ passes)
    ∙ ap (λ (k : ℕ). Some k) there

-- no number passes
find_none : (p : ℕ → Bool) (m a : ℕ) → ((k : ℕ) → k < m → p (a + k) ≡ false) → find p (range_with_len a m) ≡ None
find_none p zero a none = refl
find_none p (suc m) a none =
    let here : a ≡ a + 0 = omega arith in
    ap (λ (b : Bool). cond b (Some a) (find p (range_with_len (a + 1) m))) (ap p here ∙ none 0 (omega arith))
    ∙ find_none p m (a + 1) (λ k h. let later : a + 1 + k ≡ a + suc k = omega arith in ap p later ∙ none (suc k) (omega arith))

-- whether there is room after so many evictions
room-after : (book : BookView) (s : State) (need i : ℕ) → AreRising book.rows → StandsFor book s → has_room (after_evicting s (0 + i)) need ≡ is_some (room_for (products (without_oldest i book)) need)
room-after book s need i rising stands =
    let same : 0 + i ≡ i = omega arith in
    ap (λ (k : ℕ). has_room (after_evicting s k) need) same ∙ sym (room-stands (without_oldest i book) (after_evicting s i) need (StandsFor-evicting i book s rising stands))

-- so many evictions are made, where they make room and fewer do not
pub evictions-are : (book : BookView) (s : State) (need j : ℕ) → AreRising book.rows → StandsFor book s → j ≤ length (unheld_numbers book)
    → ((i : ℕ) → i < j → room_for (products (without_oldest i book)) need ≡ None) → (place : ℕ) → room_for (products (without_oldest j book)) need ≡ Some place → evictions s need ≡ Some j
evictions-are book s need j rising stands within none place some =
    let count : length (unheld s) ≡ length (unheld_numbers book) = ap (λ (ns : List ℕ). length ns) (sym (unheld-stands book s stands)) in
    find_first (λ i. has_room (after_evicting s i) need) (length (unheld s) + 1) 0 j (omega (arith, count))
    (λ i h. room-after book s need i rising stands ∙ ap is_some (none i h))
    (room-after book s need j rising stands ∙ ap is_some some)
    ∙ (let same : 0 + j ≡ j = omega arith in ap (λ (k : ℕ). Some k) same)

-- no evictions make room
pub evictions-none : (book : BookView) (s : State) (need : ℕ) → AreRising book.rows → StandsFor book s → ((i : ℕ) → is_some (room_for (products (without_oldest i book)) need) ≡ false)
    → evictions s need ≡ None
evictions-none book s need rising stands none = find_none (λ i. has_room (after_evicting s i) need) (length (unheld s) + 1) 0 (λ i h. room-after book s need i rising stands ∙ none i)
