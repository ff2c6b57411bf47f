-- Places behind all that hold a product count for no hold.
use Rattle.std.proofs.Common.{◌≡◌, ℕ, ◌+◌, ◌<◌, ◌≤◌, ◌++◌, false, not, ◌||◌, List, [], ◌∷◌, take, drop, length, get_or, Option, Some, None, is_some, suc, if◌then◌else◌, refl, sym, ap, ◌∙◌, arith}
use Rattle.std.specs.Int.{bit_at}
use Rattle.std.specs.List.{All}
use Rattle.std.proofs.Math.Bool.{or-false}
use Rattle.std.proofs.lemmas.List.{get_or-drop, get_or_default, length-drop, take-append-drop, take-map}
use Rattle.std.proofs.lemmas.List.Folds.{list_any-append, list_any_none}
use Rattle.ldm_cursor.specs.declared.cursor.Cursor.{Cursor}
use Rattle.ldm_cursor.specs.Kept.{AreMarked, hold_mark_of, place_of, places_of}
use Rattle.ldm_types.specs.Cursors.{KeptCursor, Places, is_number}
use Rattle.ldm_cursor.specs.Places.{count_held, cursor_at, held_of, holds, is_held, is_last_hold}

-- no place holds a product
abbrev AreFree : Places → Type 0
AreFree places = All (λ place. held_of place ≡ None) places

abbrev mark_of_hold : Option ℕ → ℕ
mark_of_hold held = if is_some held then 1 else 0

hold-unmarked : (held : Option ℕ) → mark_of_hold held ≡ 0 → held ≡ None
hold-unmarked None unmarked = refl
hold-unmarked (Some n) unmarked = absurd (omega (arith, unmarked))

-- the places from the end of the marks on
pub AreFree-behind : (marks end : ℕ) (places : Places) → length places ≡ 64 → AreMarked hold_mark_of places marks
    → ((i : ℕ) → end ≤ i → bit_at marks i ≡ 0) → AreFree (drop end places)
AreFree-behind marks end places many marked rest = λ k d inside.
    let within : end + k < 64 = omega (arith, length-drop end places) in
    ap held_of (get_or-drop end places k d ∙ get_or_default places (end + k) d None (omega arith))
    ∙ hold-unmarked (held_of (cursor_at places (end + k))) (sym (marked (end + k) within) ∙ rest (end + k) (omega arith))

holds-free : (n : ℕ) (place : Option KeptCursor) → held_of place ≡ None → holds n place ≡ false
holds-free n place free = ap (is_number n) free

is_held-append : (n : ℕ) (front behind : Places) → AreFree behind → is_held n (front ++ behind) ≡ is_held n front
is_held-append n front behind free =
    list_any-append (holds n) front behind
    ∙ ap (λ b. is_held n front || b)
    (list_any_none (holds n) behind (λ k d inside. holds-free n (get_or behind k d) (free k d inside)))
    ∙ or-false (is_held n front)

is_last_hold-append : (held : Option ℕ) (front behind : Places) → AreFree behind
    → is_last_hold held (front ++ behind) ≡ is_last_hold held front
is_last_hold-append None front behind free = refl
is_last_hold-append (Some n) front behind free = ap not (is_held-append n front behind free)

count_held-free : (places : Places) → AreFree places → count_held places ≡ 0
count_held-free [] free = refl
count_held-free (place ∷ places) free =
    ap (λ held. (if is_last_hold held places then 1 else 0) + count_held places) (free 0 None (omega arith))
    ∙ ap (λ count. 0 + count) (count_held-free places (λ k d inside. free (suc k) d (omega (arith, inside))))

count_held-append : (front behind : Places) → AreFree behind → count_held (front ++ behind) ≡ count_held front
count_held-append [] behind free = count_held-free behind free
count_held-append (place ∷ front) behind free =
    ap (λ last. (if last then 1 else 0) + count_held (front ++ behind))
    (is_last_hold-append (held_of place) front behind free)
    ∙ ap (λ count. (if is_last_hold (held_of place) front then 1 else 0) + count)
    (count_held-append front behind free)

pub is_held-take : (n end : ℕ) (places : Places) → AreFree (drop end places)
    → is_held n (take end places) ≡ is_held n places
is_held-take n end places free =
    sym (is_held-append n (take end places) (drop end places) free) ∙ ap (is_held n) (take-append-drop end places)

pub count_held-take : (end : ℕ) (places : Places) → AreFree (drop end places)
    → count_held (take end places) ≡ count_held places
count_held-take end places free =
    sym (count_held-append (take end places) (drop end places) free) ∙ ap count_held (take-append-drop end places)

-- the places that are kept, up to the end of the marks
pub front_of-view : (items seen : List (Option Cursor)) (places : Places) (end : ℕ) → seen ≡ items
    → places_of items ≡ places → places_of (take end seen) ≡ take end places
front_of-view items seen places end same view =
    sym (take-map place_of end seen)
    ∙ ap (λ (kept : List (Option Cursor)). take end (places_of kept)) same
    ∙ ap (take end) view
