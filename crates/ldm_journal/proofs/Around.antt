-- Bytes of files, and of their rings.
use Rattle.std.proofs.Common.{◌≡◌, ◌⊎◌, inl, inr, ⊎_elim, ℕ, ◌+◌, ◌-◌, ◌%◌, ◌<◌, ◌≤◌, min, List, [], ◌∷◌, ◌++◌, length, take, drop, replicate, get_or, refl, sym, ◌∙◌, ap, arith}
use Rattle.std.specs.List.{between}
use Rattle.std.proofs.lemmas.Bool.{cases_lt}
use Rattle.std.proofs.lemmas.Slice.{between_is}
use Rattle.std.proofs.lemmas.List.{ext_get_or, append-nil, append_assoc, length-append, length-take, length-take-le, length-drop, get_or-take, get_or-drop, get_or_append_left, get_or-append_right, take_at, drop_at, take-append-drop}
use Rattle.std.proofs.lemmas.List.Edits.{get_or-between}
use Rattle.std.proofs.lemmas.List.FromFn.{length-map-range_with_len, get_or-map-range_with_len}
use Rattle.std.proofs.Math.Nat.{mod-eq_of_lt, mod-add-mod, add-mod_right}
use Rattle.ldm_disk.specs.Model.{written_at}
use Rattle.ldm_journal.specs.declared.places.TheConstants.{RING}
use Rattle.ldm_journal.specs.Format.{around}

-- a place past the end of a ring, and before its second end
pub mod_round : (at ring : ℕ) → ring ≤ at → at < ring + ring → at % ring ≡ at - ring
mod_round at ring from less =
    let sum : at ≡ (at - ring) + ring = omega arith in
    ap (λ (n : ℕ). n % ring) sum ∙ add-mod_right (at - ring) ring ∙ mod-eq_of_lt (omega arith)

-- some places on, up to the end of the ring
pub mod_on : (from i ring : ℕ) → from % ring + i < ring → (from + i) % ring ≡ from % ring + i
mod_on from i ring less = sym (mod-add-mod from ring i) ∙ mod-eq_of_lt less

-- and round its end
pub mod_over : (from i ring : ℕ) → ring ≤ from % ring + i → from % ring + i < ring + ring → (from + i) % ring ≡ from % ring + i - ring
mod_over from i ring over less = sym (mod-add-mod from ring i) ∙ mod_round (from % ring + i) ring over less

pub length-around : (ring from count : ℕ) (file : List ℕ) → length (around ring from count file) ≡ count
unfolding around
length-around ring from count file = length-map-range_with_len (λ at. get_or file (RING + at % ring) 0) from count

pub get_or-around : (ring from count i : ℕ) (file : List ℕ) → i < count → get_or (around ring from count file) i 0 ≡ get_or file (RING + (from + i) % ring) 0
unfolding around
get_or-around ring from count i file within = get_or-map-range_with_len (λ at. get_or file (RING + at % ring) 0) from count i (from + i) 0 within refl

-- two files with the same bytes at the places
pub around_same : (ring from count : ℕ) (before after : List ℕ)
    → ((i : ℕ) → i < count → get_or after (RING + (from + i) % ring) 0 ≡ get_or before (RING + (from + i) % ring) 0)
    → around ring from count after ≡ around ring from count before
around_same ring from count before after same =
    let la = length-around ring from count after in
    let lb = length-around ring from count before in
    ext_get_or 0 (around ring from count after) (around ring from count before) (la ∙ sym lb)
    (λ i within.
    let lt : i < count = omega (arith, within, la) in
    get_or-around ring from count i after lt ∙ same i lt ∙ sym (get_or-around ring from count i before lt))

-- a list that has the bytes at the places
pub around_is : (ring from : ℕ) (bytes file : List ℕ) → ((i : ℕ) → i < length bytes → get_or file (RING + (from + i) % ring) 0 ≡ get_or bytes i 0)
    → around ring from (length bytes) file ≡ bytes
around_is ring from bytes file same =
    let la = length-around ring from (length bytes) file in
    ext_get_or 0 (around ring from (length bytes) file) bytes la
    (λ i within.
    let lt : i < length bytes = omega (arith, within, la) in
    get_or-around ring from (length bytes) i file lt ∙ same i lt)

pub around-add : (ring from first next : ℕ) (file : List ℕ) → around ring from (first + next) file ≡ around ring from first file ++ around ring (from + first) next file
around-add ring from first next file =
    let xs = around ring from first file in
    let ys = around ring (from + first) next file in
    let lw = length-around ring from (first + next) file in
    let lx = length-around ring from first file in
    let ly = length-around ring (from + first) next file in
    let both : length (xs ++ ys) ≡ first + next = omega (arith, length-append xs ys, lx, ly) in
    ext_get_or 0 (around ring from (first + next) file) (xs ++ ys) (lw ∙ sym both)
    (λ i within.
    let lt : i < first + next = omega (arith, within, lw) in
    get_or-around ring from (first + next) i file lt
    ∙ elim (cases_lt i first) as (λ v. get_or file (RING + (from + i) % ring) 0 ≡ get_or (xs ++ ys) i 0) [
      | inl less ↦
          (let here : i < length xs = omega (arith, less, lx) in
          sym (get_or-around ring from first i file less) ∙ sym (get_or_append_left xs ys 0 i here))
      | inr more ↦
          (let there : i - first < next = omega (arith, more, lt) in
          let sum : from + i ≡ from + first + (i - first) = omega (arith, more) in
          ap (λ (n : ℕ). get_or file (RING + n % ring) 0) sum
          ∙ sym (get_or-around ring (from + first) next (i - first) file there)
          ∙ sym (get_or-append_right xs ys first i 0 lx more))
    ])

pub drop-around : (ring from count n : ℕ) (file : List ℕ) → n ≤ count → drop n (around ring from count file) ≡ around ring (from + n) (count - n) file
drop-around ring from count n file le =
    let sum : count ≡ n + (count - n) = omega arith in
    ap (λ (k : ℕ). drop n (around ring from k file)) sum
    ∙ ap (λ (l : List ℕ). drop n l) (around-add ring from n (count - n) file)
    ∙ drop_at (around ring from n file) (around ring (from + n) (count - n) file) n (length-around ring from n file)

pub take-around : (ring from count n : ℕ) (file : List ℕ) → n ≤ count → take n (around ring from count file) ≡ around ring from n file
take-around ring from count n file le =
    let sum : count ≡ n + (count - n) = omega arith in
    ap (λ (k : ℕ). take n (around ring from k file)) sum
    ∙ ap (λ (l : List ℕ). take n l) (around-add ring from n (count - n) file)
    ∙ take_at (around ring from n file) (around ring (from + n) (count - n) file) n (length-around ring from n file)

-- a place counted on past the end of the ring
pub around-mod : (ring from count : ℕ) (file : List ℕ) → around ring (from % ring) count file ≡ around ring from count file
around-mod ring from count file =
    let la = length-around ring (from % ring) count file in
    let lb = length-around ring from count file in
    ext_get_or 0 (around ring (from % ring) count file) (around ring from count file) (la ∙ sym lb)
    (λ i within.
    let lt : i < count = omega (arith, within, la) in
    get_or-around ring (from % ring) count i file lt
    ∙ ap (λ (n : ℕ). get_or file (RING + n) 0) (mod-add-mod from ring i)
    ∙ sym (get_or-around ring from count i file lt))

-- what stands between two places
pub length-between' : (i j : ℕ) (xs : List ℕ) → length (between i j xs) ≡ min j (length xs) - i
length-between' i j xs =
    let is : length (between i j xs) ≡ length (drop i (take j xs)) = ap length (between_is xs i j) in
    omega (arith, is, length-take j xs, length-drop i (take j xs))

pub between_same : (i j : ℕ) (before after : List ℕ) → length after ≡ length before
    → ((q : ℕ) → i ≤ q → q < j → get_or after q 0 ≡ get_or before q 0) → between i j after ≡ between i j before
between_same i j before after long same =
    let la = length-between' i j after in
    let lb = length-between' i j before in
    ext_get_or 0 (between i j after) (between i j before) (omega (arith, la, lb, long))
    (λ k within.
    let lt : i + k < j = omega (arith, within, la) in
    get_or-between after i j k 0 lt ∙ same (i + k) (omega arith) lt ∙ sym (get_or-between before i j k 0 lt))

pub take_same : (n : ℕ) (before after : List ℕ) → length after ≡ length before → ((q : ℕ) → q < n → get_or after q 0 ≡ get_or before q 0) → take n after ≡ take n before
take_same n before after long same =
    let la = length-take n after in
    let lb = length-take n before in
    ext_get_or 0 (take n after) (take n before) (omega (arith, la, lb, long))
    (λ k within.
    let lt : k < n = omega (arith, within, la) in
    get_or-take n after k 0 lt ∙ same k lt ∙ sym (get_or-take n before k 0 lt))

-- a part of the ring was read that does not go round its end
pub part_read : (ring from : ℕ) (into file : List ℕ) → from % ring + length into ≤ ring → into ≡ between (RING + from % ring) (RING + from % ring + length into) file
    → into ≡ around ring from (length into) file
part_read ring from into file fits is =
    sym (around_is ring from into file
    (λ i within.
    let on = mod_on from i ring (omega (arith, fits, within)) in
    let sum : RING + (from + i) % ring ≡ RING + from % ring + i = omega (arith, on) in
    ap (λ (n : ℕ). get_or file n 0) sum
    ∙ sym (get_or-between file (RING + from % ring) (RING + from % ring + length into) i 0 (omega (arith, within)))
    ∙ ap (λ (l : List ℕ). get_or l i 0) (sym is)))

-- a piece that is written within a file
pub written_is : (at : ℕ) (piece bytes : List ℕ) → at + length piece ≤ length bytes
    → written_at at piece bytes ≡ take at bytes ++ (piece ++ drop (at + length piece) bytes)
written_is at [] bytes within =
    let none : at + 0 ≡ at = omega arith in
    sym (take-append-drop at bytes) ∙ ap (λ (n : ℕ). take at bytes ++ drop n bytes) (sym none)
written_is at (byte ∷ rest) bytes within =
    let piece = byte ∷ rest in
    let none : at - length bytes ≡ 0 = omega arith in
    let filled : take at bytes ++ replicate (at - length bytes) 0 ≡ take at bytes = rw none (append-nil (take at bytes)) in
    ap (λ (l : List ℕ). l ++ piece ++ drop (at + length piece) bytes) filled
    ∙ append_assoc (take at bytes) piece (drop (at + length piece) bytes)

pub length-written : (at : ℕ) (piece bytes : List ℕ) → at + length piece ≤ length bytes → length (written_at at piece bytes) ≡ length bytes
length-written at piece bytes within =
    let rest = drop (at + length piece) bytes in
    ap length (written_is at piece bytes within)
    ∙ omega (arith, length-append (take at bytes) (piece ++ rest), length-append piece rest, length-take-le at bytes (omega arith), length-drop (at + length piece) bytes)

pub get_or-written : (at : ℕ) (piece bytes : List ℕ) (i : ℕ) → at + length piece ≤ length bytes → i < length piece
    → get_or (written_at at piece bytes) (at + i) 0 ≡ get_or piece i 0
get_or-written at piece bytes i within less =
    let rest = drop (at + length piece) bytes in
    let front = length-take-le at bytes (omega arith) in
    let back : at + i - at ≡ i = omega arith in
    ap (λ (l : List ℕ). get_or l (at + i) 0) (written_is at piece bytes within)
    ∙ get_or-append_right (take at bytes) (piece ++ rest) at (at + i) 0 front (omega arith)
    ∙ ap (λ (n : ℕ). get_or (piece ++ rest) n 0) back
    ∙ get_or_append_left piece rest 0 i less

pub get_or-written_other : (at : ℕ) (piece bytes : List ℕ) (q : ℕ) → at + length piece ≤ length bytes → (q < at) ⊎ (at + length piece ≤ q)
    → get_or (written_at at piece bytes) q 0 ≡ get_or bytes q 0
get_or-written_other at piece bytes q within outside =
    let rest = drop (at + length piece) bytes in
    let front = length-take-le at bytes (omega arith) in
    ap (λ (l : List ℕ). get_or l q 0) (written_is at piece bytes within)
    ∙ ⊎_elim
    (λ below.
    get_or_append_left (take at bytes) (piece ++ rest) 0 q (omega (arith, below, front)) ∙ get_or-take at bytes q 0 below)
    (λ above.
    let past : length piece ≤ q - at = omega (arith, above) in
    let sum : at + length piece + (q - at - length piece) ≡ q = omega (arith, above) in
    get_or-append_right (take at bytes) (piece ++ rest) at q 0 front (omega (arith, above))
    ∙ get_or-append_right piece rest (length piece) (q - at) 0 refl past
    ∙ get_or-drop (at + length piece) bytes (q - at - length piece) 0
    ∙ ap (λ (n : ℕ). get_or bytes n 0) sum)
    outside
