-- Evicting more never takes room away. So there is room after some evictions exactly where there is after all.
use Rattle.std.proofs.Common.{◌≡◌, ◌∙◌, ◌↔◌, ℕ, zero, suc, ◌+◌, ◌<◌, ◌≤◌, ◌||◌, Bool, true, false, cond, take, List, [], ◌∷◌, ◌++◌, length, map, Option, Some, None, refl, sym, ap, arith}
use Rattle.std.specs.Prelude.{nat_lt, is_some, slice_get}
use Rattle.std.proofs.lemmas.Bool.{both_ways, and_parts, and_from, or_parts, ltb-true, lt-ltb, le-ltb}
use Rattle.ldm_types.specs.Info.{Metadata}
use Rattle.ldm_types.specs.Arena.{Region, covers, is_covered}
use Rattle.ldm_model.specs.declared.event.Reply.TheVariants as reply
use Rattle.ldm_model.specs.Product.{Product, extent_of}
use Rattle.ldm_model.specs.State.{State, Row, add_queued, queued_from, queued, queued_with, region_of, reserved, reserved_region, occupied, slots_taken}
use Rattle.ldm_model.specs.Outcome.{Outcome, unchanged}
use Rattle.ldm_model.specs.Room.{fit_in, has_room}
use Rattle.ldm_model.specs.Evict.{count_held, unheld, without_place, evict, evict_row, evict_all}
use Rattle.ldm_model.specs.Insert.{insert, insert_fitting, insert_by_evictions, evictions, after_evicting, admitted}
use Rattle.ldm_model.specs.Always.{IsInsertable}
use Rattle.ldm_model.proofs.Coming.{find-range_before, find-range_none}
use Rattle.ldm_model.proofs.Space.{fit-space, space-fit}
use Rattle.ldm_model.proofs.ApartRegions.{extent-some}
use Rattle.ldm_model.proofs.Regions.{regions_from, region_for, few-without}

-- an eviction covers no more
covered-without : (i n low : ℕ) (rows : List Row) → is_covered (regions_from low rows) i ≡ false → is_covered (regions_from low (without_place rows n)) i ≡ false
covered-without i n low [] free = free
covered-without i zero low (row ∷ rows) free = by_place row.place free
  where
    by_place : (place : Option ℕ) → is_covered (map region_of (add_queued low row place (queued_from (low + 1) rows))) i ≡ false → is_covered (regions_from (low + 1) rows) i ≡ false
    by_place None h = h
    by_place (Some place) h = (or_parts (covers i (region_for row.product place)) (is_covered (regions_from (low + 1) rows) i) h).1
covered-without i (suc n) low (row ∷ rows) free = by_place row.place (covered-without i n (low + 1) rows) free
  where
    by_place : (place : Option ℕ) → (is_covered (regions_from (low + 1) rows) i ≡ false → is_covered (regions_from (low + 1) (without_place rows n)) i ≡ false)
        → is_covered (map region_of (add_queued low row place (queued_from (low + 1) rows))) i ≡ false
        → is_covered (map region_of (add_queued low row place (queued_from (low + 1) (without_place rows n)))) i ≡ false
    by_place None more h = more h
    by_place (Some place) more h =
        let parts = or_parts (covers i (region_for row.product place)) (is_covered (regions_from (low + 1) rows) i) h in
        ap (λ (b : Bool). b || is_covered (regions_from (low + 1) (without_place rows n)) i) parts.0 ∙ more parts.1

-- what two lists of regions leave free, each leaves free
free-left : (i : ℕ) (xs ys : List Region) → is_covered (xs ++ ys) i ≡ false → is_covered xs i ≡ false
free-left i [] ys free = refl
free-left i (x ∷ xs) ys free =
    let parts = or_parts (covers i x) (is_covered (xs ++ ys) i) free in
    ap (λ (b : Bool). b || is_covered xs i) parts.0 ∙ free-left i xs ys parts.1

free-right : (i : ℕ) (xs ys : List Region) → is_covered (xs ++ ys) i ≡ false → is_covered ys i ≡ false
free-right i [] ys free = free
free-right i (x ∷ xs) ys free = free-right i xs ys (or_parts (covers i x) (is_covered (xs ++ ys) i) free).1

free-both : (i : ℕ) (xs ys : List Region) → is_covered xs i ≡ false → is_covered ys i ≡ false → is_covered (xs ++ ys) i ≡ false
free-both i [] ys free more = more
free-both i (x ∷ xs) ys free more =
    let parts = or_parts (covers i x) (is_covered xs i) free in
    ap (λ (b : Bool). b || is_covered (xs ++ ys) i) parts.0 ∙ free-both i xs ys parts.1 more

-- fewer slots are taken, and nothing else is covered
record IsLess (s t : State) : Type 0 where
  arena : t.arena ≡ s.arena
  slots : t.slots ≡ s.slots
  few : slots_taken t ≤ slots_taken s
  free : (i : ℕ) → is_covered (occupied s) i ≡ false → is_covered (occupied t) i ≡ false

less-evict : (s : State) (n : ℕ) → IsLess s (evict s n)
less-evict s n = by_row (slice_get s.rows n)
  where
    freed : (i : ℕ) → is_covered (occupied s) i ≡ false → is_covered (regions_from 0 (without_place s.rows n) ++ map reserved_region (reserved s)) i ≡ false
    freed i h = free-both i (regions_from 0 (without_place s.rows n)) (map reserved_region (reserved s))
        (covered-without i n 0 s.rows (free-left i (regions_from 0 s.rows) (map reserved_region (reserved s)) h))
        (free-right i (regions_from 0 s.rows) (map reserved_region (reserved s)) h)

    by_row : (row : Option Row) → IsLess s (evict_row s n row)
    by_row None = record { arena = refl; slots = refl; few = omega arith; free = λ i h. h }
    by_row (Some row) = record { arena = refl; slots = refl; few = let less = few-without n 0 s.rows in omega arith; free = freed }

room-less : (s t : State) (need : ℕ) → 0 < need → IsLess s t → has_room s need ≡ true → has_room t need ≡ true
room-less s t need some less room =
    let parts = and_parts (nat_lt (slots_taken s) s.slots) (is_some (fit_in s need)) room in
    let slot = ltb-true (slots_taken s) s.slots parts.0 in
    let space = fit-space need s.arena (occupied s) parts.1 in
    and_from (nat_lt (slots_taken t) t.slots) (is_some (fit_in t need))
    (lt-ltb (slots_taken t) t.slots (omega (arith, less.slots, less.few)))
    (space-fit need t.arena (occupied t) some
    (record { start = space.start; above = space.above; within = omega (arith, less.arena, space.within); free = λ i from to. less.free i (space.free i from to) }))

room-evict_all : (need : ℕ) → 0 < need → (ns : List ℕ) (s : State) → has_room s need ≡ true → has_room (evict_all s ns) need ≡ true
room-evict_all need some [] s room = room
room-evict_all need some (n ∷ ns) s room = room-evict_all need some ns (evict s n) (room-less s (evict s n) need some (less-evict s n) room)

-- more of these rows are evicted
room-more : (need : ℕ) → 0 < need → (i j : ℕ) (ns : List ℕ) (s : State) → i ≤ j → has_room (evict_all s (take i ns)) need ≡ true → has_room (evict_all s (take j ns)) need ≡ true
room-more need some zero j ns s le room = room-evict_all need some (take j ns) s room
room-more need some (suc i) zero ns s le room = absurd (omega arith)
room-more need some (suc i) (suc j) [] s le room = room
room-more need some (suc i) (suc j) (n ∷ ns) s le room = room-more need some i j ns (evict s n) (omega arith) room

pub room-kept : (s : State) (info : Metadata) (i j : ℕ) → i ≤ j → has_room (after_evicting s i) (extent_of info) ≡ true → has_room (after_evicting s j) (extent_of info) ≡ true
room-kept s info i j le room = room-more (extent_of info) (extent-some info) i j (unheld s) s le room

-- all of them are
room-all : (need : ℕ) → 0 < need → (j : ℕ) (ns : List ℕ) (s : State) → has_room (evict_all s (take j ns)) need ≡ true → has_room (evict_all s ns) need ≡ true
room-all need some zero ns s room = room-evict_all need some ns s room
room-all need some (suc j) [] s room = room
room-all need some (suc j) (n ∷ ns) s room = room-all need some j ns (evict s n) room

take-all : (ns : List ℕ) → take (length ns) ns ≡ ns
take-all [] = refl
take-all (n ∷ ns) = ap (λ (ms : List ℕ). n ∷ ms) (take-all ns)

module _ (s : State) (now : ℕ) (p : Product) (can : IsInsertable s p) where
  abbrev need : ℕ
  need = extent_of p.info

  -- the first tests are passed
  by-evictions : insert s now p ≡ insert_by_evictions s now p (evictions s need)
  unfolding insert
  by-evictions =
      ap (λ (b : Bool). cond b (unchanged s (reply.TooBig need s.arena)) (insert_fitting s now p (queued_with p.info.signature (queued s)))) (le-ltb s.arena need can.fits)
      ∙ ap (insert_fitting s now p) can.absent
      ∙ ap (λ (b : Bool). cond b (unchanged s reply.TimeEnd) (insert_by_evictions s now p (evictions s need))) can.in_time

  none-by-none : evictions s need ≡ None → has_room (evict_all s (unheld s)) need ≡ false
  none-by-none none =
      ap (λ (ns : List ℕ). has_room (evict_all s ns) need) (sym (take-all (unheld s)))
      ∙ find-range_none (λ j. has_room (after_evicting s j) need) 0 (length (unheld s) + 1) none (length (unheld s)) (omega arith) (omega arith)

  some-by-some : (j : ℕ) → evictions s need ≡ Some j → has_room (evict_all s (unheld s)) need ≡ true
  some-by-some j found = room-all need (extent-some p.info) j (unheld s) s (find-range_before (λ i. has_room (after_evicting s i) need) 0 (length (unheld s) + 1) j found).0

  -- an insertion is refused so exactly where all evictions would not make room
  pub locked : ((held : ℕ) × ((insert s now p).reply ≡ reply.Locked held)) ↔ (has_room (evict_all s (unheld s)) need ≡ false)
  locked = by_found (evictions s need) refl
    where
      by_found : (found : Option ℕ) → evictions s need ≡ found → ((held : ℕ) × ((insert s now p).reply ≡ reply.Locked held)) ↔ (has_room (evict_all s (unheld s)) need ≡ false)
      by_found None e = (
        λ h. none-by-none e,
        λ h. (count_held s, ap (λ (outcome : Outcome). outcome.reply) (by-evictions ∙ ap (insert_by_evictions s now p) e)),
      )
      by_found (Some j) e = (
        λ h.
            let is : (admitted (after_evicting s j) now p j).reply ≡ reply.Locked h.0 = sym (ap (λ (outcome : Outcome). outcome.reply) (by-evictions ∙ ap (insert_by_evictions s now p) e)) ∙ h.1 in
            absurd cc,
        λ h. absurd (both_ways (has_room (evict_all s (unheld s)) need) h (some-by-some j e)),
      )
