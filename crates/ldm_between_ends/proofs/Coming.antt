-- The present rows that are still to come at a position, in order, and what is left of them one product further on.
use Rattle.std.proofs.Common.{◌≡◌, ◌∙◌, ℕ, ◌+◌, ◌<◌, ◌≤◌, Bool, true, false, cond, List, [], ◌∷◌, length, map, filter, Option, Some, None, refl, sym, ap, arith}
use Rattle.std.specs.Prelude.{◌&&◌, nat_le}
use Rattle.std.specs.List.{find}
use Rattle.std.proofs.lemmas.Bool.{le-leb, lt-leb, both_ways, and_parts, leb-true}
use Rattle.ldm_types.specs.Feed.{feeds_meet}
use Rattle.ldm_model.specs.State.{Row, Queued, queued_from, add_queued}

-- whether a row is of these feedtypes
abbrev pub is_of : ℕ → Queued → Bool
is_of feed q = feeds_meet feed q.product.info.feed

-- and at or past a position
abbrev pub comes : ℕ → ℕ → Queued → Bool
comes feed at q = nat_le at q.number && is_of feed q

-- from a position on that none of them is below, all of these feedtypes come
pub comes-all : (feed at low : ℕ) (rows : List Row) → at ≤ low → filter (comes feed at) (queued_from low rows) ≡ filter (is_of feed) (queued_from low rows)
comes-all feed at low [] le = refl
comes-all feed at low (row ∷ rows) le = by_place row.place (comes-all feed at (low + 1) rows (omega arith))
  where
    by_place : (place : Option ℕ) → filter (comes feed at) (queued_from (low + 1) rows) ≡ filter (is_of feed) (queued_from (low + 1) rows)
        → filter (comes feed at) (add_queued low row place (queued_from (low + 1) rows)) ≡ filter (is_of feed) (add_queued low row place (queued_from (low + 1) rows))
    by_place None more = more
    by_place (Some place) more =
        let q : Queued = record { number = low; product = row.product; time = row.time; place = place } in
        rw (le-leb at low le) (λ i. cond (is_of feed q) (q ∷ more i) (more i))

-- from the first present row on, all come
pub comes-first : (feed low : ℕ) (rows : List Row) (first : Queued) → find (λ (q : Queued). true) (queued_from low rows) ≡ Some first
    → filter (comes feed first.number) (queued_from low rows) ≡ filter (is_of feed) (queued_from low rows)
comes-first feed low [] first found = refl
comes-first feed low (row ∷ rows) first found = by_place row.place (comes-first feed (low + 1) rows first) found
  where
    by_place : (place : Option ℕ) → (find (λ (q : Queued). true) (queued_from (low + 1) rows) ≡ Some first
        → filter (comes feed first.number) (queued_from (low + 1) rows) ≡ filter (is_of feed) (queued_from (low + 1) rows))
        → find (λ (q : Queued). true) (add_queued low row place (queued_from (low + 1) rows)) ≡ Some first
        → filter (comes feed first.number) (add_queued low row place (queued_from (low + 1) rows)) ≡ filter (is_of feed) (add_queued low row place (queued_from (low + 1) rows))
    by_place None more e = more e
    by_place (Some place) more e =
        let q : Queued = record { number = low; product = row.product; time = row.time; place = place } in
        let same : low ≡ first.number = cc in
        let at_low : first.number ≤ low = omega arith in
        rw (le-leb first.number low at_low) (λ i. cond (is_of feed q)
        (q ∷ comes-all feed first.number (low + 1) rows (omega arith) i) (comes-all feed first.number (low + 1) rows (omega arith) i))

-- from the end on, none comes
pub comes-none : (feed at low : ℕ) (rows : List Row) → low + length rows ≤ at → filter (comes feed at) (queued_from low rows) ≡ []
comes-none feed at low [] le = refl
comes-none feed at low (row ∷ rows) le = by_place row.place (comes-none feed at (low + 1) rows (omega arith))
  where
    past : low < at
    past = omega arith

    by_place : (place : Option ℕ) → filter (comes feed at) (queued_from (low + 1) rows) ≡ [] → filter (comes feed at) (add_queued low row place (queued_from (low + 1) rows)) ≡ []
    by_place None more = more
    by_place (Some place) more = rw (lt-leb at low past) more

-- none comes where none is found
pub find-none : (test : Queued → Bool) (qs : List Queued) → find test qs ≡ None → filter test qs ≡ []
find-none test [] none = refl
find-none test (q ∷ qs) none = by_test (test q) (find-none test qs) none
  where
    by_test : (b : Bool) → (find test qs ≡ None → filter test qs ≡ []) → cond b (Some q) (find test qs) ≡ None → cond b (q ∷ filter test qs) (filter test qs) ≡ []
    by_test true more e = absurd cc
    by_test false more e = more e

found-low : (test : Queued → Bool) (low : ℕ) (rows : List Row) (found : Queued) → find test (queued_from low rows) ≡ Some found → low ≤ found.number
found-low test low [] found e = absurd cc
found-low test low (row ∷ rows) found e = by_place row.place (λ x. omega (arith, found-low test (low + 1) rows found x)) e
  where
    by_test : (q : Queued) (b : Bool) → q.number ≡ low → (find test (queued_from (low + 1) rows) ≡ Some found → low ≤ found.number)
        → cond b (Some q) (find test (queued_from (low + 1) rows)) ≡ Some found → low ≤ found.number
    by_test q true at more x = let same : q.number ≡ found.number = cc in omega arith
    by_test q false at more x = more x

    by_place : (place : Option ℕ) → (find test (queued_from (low + 1) rows) ≡ Some found → low ≤ found.number)
        → find test (add_queued low row place (queued_from (low + 1) rows)) ≡ Some found → low ≤ found.number
    by_place None more x = more x
    by_place (Some place) more x = let q : Queued = record { number = low; product = row.product; time = row.time; place = place } in by_test q (test q) refl more x

-- the first one that comes, and then those that come behind it
pub comes-next : (feed at low : ℕ) (rows : List Row) (found : Queued) → find (comes feed at) (queued_from low rows) ≡ Some found
    → filter (comes feed at) (queued_from low rows) ≡ found ∷ filter (comes feed (found.number + 1)) (queued_from low rows)
comes-next feed at low [] found e = absurd cc
comes-next feed at low (row ∷ rows) found e = by_place row.place (comes-next feed at (low + 1) rows found) e
  where
    -- the row is behind the position then
    behind : (q : Queued) → q.number ≡ low → low ≤ found.number → filter (comes feed (found.number + 1)) (q ∷ queued_from (low + 1) rows) ≡ filter (comes feed (found.number + 1)) (queued_from (low + 1) rows)
    behind q at_low le = let past : q.number < found.number + 1 = omega arith in rw (lt-leb (found.number + 1) q.number past) refl

    by_test : (q : Queued) (b : Bool) → q.number ≡ low → comes feed at q ≡ b
        → (find (comes feed at) (queued_from (low + 1) rows) ≡ Some found → filter (comes feed at) (queued_from (low + 1) rows) ≡ found ∷ filter (comes feed (found.number + 1)) (queued_from (low + 1) rows))
        → cond b (Some q) (find (comes feed at) (queued_from (low + 1) rows)) ≡ Some found
        → cond b (q ∷ filter (comes feed at) (queued_from (low + 1) rows)) (filter (comes feed at) (queued_from (low + 1) rows)) ≡ found ∷ filter (comes feed (found.number + 1)) (q ∷ queued_from (low + 1) rows)
    by_test q true at_low test more x =
        let same : q ≡ found = cc in
        let here : at ≤ q.number = leb-true at q.number (and_parts (nat_le at q.number) (is_of feed q) test).0 in
        let number : found.number ≡ low = ap (λ (y : Queued). y.number) (sym same) ∙ at_low in
        (λ i. same i ∷ (comes-all feed at (low + 1) rows (omega arith) ∙ sym (comes-all feed (found.number + 1) (low + 1) rows (omega arith))) i)
        ∙ ap (λ (qs : List Queued). found ∷ qs) (sym (behind q at_low (omega arith)))
    by_test q false at_low test more x =
        more x ∙ ap (λ (qs : List Queued). found ∷ qs) (sym (behind q at_low (omega (arith, found-low (comes feed at) (low + 1) rows found x))))

    by_place : (place : Option ℕ)
        → (find (comes feed at) (queued_from (low + 1) rows) ≡ Some found → filter (comes feed at) (queued_from (low + 1) rows) ≡ found ∷ filter (comes feed (found.number + 1)) (queued_from (low + 1) rows))
        → find (comes feed at) (add_queued low row place (queued_from (low + 1) rows)) ≡ Some found
        → filter (comes feed at) (add_queued low row place (queued_from (low + 1) rows)) ≡ found ∷ filter (comes feed (found.number + 1)) (add_queued low row place (queued_from (low + 1) rows))
    by_place None more x = more x
    by_place (Some place) more x =
        let q : Queued = record { number = low; product = row.product; time = row.time; place = place } in
        by_test q (comes feed at q) refl refl more x

-- a test that only passes where another one does finds the same among those that pass the other
pub filter-within : {X Y : Type 0} (f : X → Y) (wider : X → Bool) (test : Y → Bool) (xs : List X) → ((x : X) → test (f x) ≡ true → wider x ≡ true)
    → filter test (map f (filter wider xs)) ≡ filter test (map f xs)
filter-within f wider test [] passes = refl
filter-within {Y = Y} f wider test (x ∷ xs) passes = by_tests (wider x) (test (f x)) refl refl (filter-within f wider test xs passes)
  where
    by_tests : (b c : Bool) → wider x ≡ b → test (f x) ≡ c → filter test (map f (filter wider xs)) ≡ filter test (map f xs)
        → filter test (map f (cond b (x ∷ filter wider xs) (filter wider xs))) ≡ cond c (f x ∷ filter test (map f xs)) (filter test (map f xs))
    by_tests true true wide passed more = rw passed (ap (λ (ys : List Y). f x ∷ ys) more)
    by_tests true false wide passed more = rw passed more
    by_tests false true wide passed more = absurd (both_ways (wider x) wide (passes x passed))
    by_tests false false wide passed more = more
