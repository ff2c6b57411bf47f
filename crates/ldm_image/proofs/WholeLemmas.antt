-- A file that has the numbers, the rows and the bytes of a queue is its image.
use Rattle.std.proofs.Common.{◌≡◌, ℕ, zero, suc, ◌+◌, ◌-◌, ◌*◌, ◌<◌, ◌≤◌, inl, inr, List, [], ◌∷◌, ◌++◌, length, take, drop, sym, ◌∙◌, ap, arith}
use Rattle.std.specs.Prelude.{slice_index, get_or, flat_map}
use Rattle.std.proofs.lemmas.Bool.{cases_lt}
use Rattle.std.proofs.Math.ListN.{get_or-eq_default}
use Rattle.std.proofs.lemmas.List.{drop-drop, take_all, take-append-drop, length-take, length-drop, get_or-take, get_or-drop}
use Rattle.std.proofs.lemmas.Nat.{be_bytes_8}
use Rattle.ldm_book.specs.View.{BookView, Kept}
use Rattle.ldm_image.specs.Image.{eight, row_bytes, image, opening, last_field}
use Rattle.ldm_image.specs.Fault.{HasEight, number_at, number_in, time_in, place_in, arena_in, slots_in, admitted_in, last_in, count_in, arena_start, arena_bytes}
use Rattle.ldm_image.proofs.RowLemmas.{no_kept, number_take}

module _ (file : List ℕ) (bytes : (i : ℕ) → slice_index file i < 256) where
  -- eight bytes are those of their number
  pub eight_back : (place n : ℕ) → HasEight place file → n ≡ number_at place file → drop place file ≡ eight n ++ drop (place + 8) file
  eight_back place n has is =
      let part = take 8 (drop place file) in
      let count : length part ≡ 8 = omega (arith, has, length-take 8 (drop place file), length-drop place file) in
      let small : (i : ℕ) → get_or part i 0 < 256 =
      λ i. elim (cases_lt i 8) [
        | inl below ↦ (rw (get_or-take 8 (drop place file) i 0 below ∙ get_or-drop place file i 0) (bytes (place + i)))
        | inr above ↦ (rw (get_or-eq_default part 0 {n = i} (omega (arith, above, count))) (omega arith))
      ] in
      let back : eight n ≡ part = be_bytes_8 part n count small (is ∙ number_take place file) in
      sym (take-append-drop 8 (drop place file)) ∙ ap (λ (l : List ℕ). l ++ drop 8 (drop place file)) (sym back) ∙ ap (λ (l : List ℕ). eight n ++ l) (drop-drop 8 place file)

  -- and so are the bytes of rows
  pub rows_back : (rows : List Kept) (place : ℕ) → place + 24 * length rows ≤ length file
      → ((row : ℕ) → row < length rows →
      ((get_or rows row no_kept).number ≡ number_at (place + 24 * row) file) × ((get_or rows row no_kept).time ≡ number_at (place + 24 * row + 8) file)
      × ((get_or rows row no_kept).place ≡ number_at (place + 24 * row + 16) file))
      → drop place file ≡ flat_map row_bytes rows ++ drop (place + 24 * length rows) file
  rows_back [] place within each = let none : place ≡ place + 24 * 0 = omega arith in ap (λ (n : ℕ). drop n file) none
  rows_back (k ∷ rows) place within each =
      let first = each zero (omega arith) in
      let here : place + 24 * 0 ≡ place = omega arith in
      let number : k.number ≡ number_at place file = first.0 ∙ ap (λ (n : ℕ). number_at n file) here in
      let time : k.time ≡ number_at (place + 8) file = first.1 ∙ ap (λ (n : ℕ). number_at (n + 8) file) here in
      let spot : k.place ≡ number_at (place + 8 + 8) file =
      first.2 ∙ ap (λ (n : ℕ). number_at n file) (let same : place + 24 * 0 + 16 ≡ place + 8 + 8 = omega arith in same) in
      let next : place + 8 + 8 + 8 ≡ place + 24 = omega arith in
      let rest : drop (place + 24) file ≡ flat_map row_bytes rows ++ drop (place + 24 + 24 * length rows) file =
      rows_back rows (place + 24) (omega (arith, within))
      (λ row less.
      let at = each (suc row) (omega (arith, less)) in
      let there : place + 24 * suc row ≡ place + 24 + 24 * row = omega arith in
      (at.0 ∙ ap (λ (n : ℕ). number_at n file) there, at.1 ∙ ap (λ (n : ℕ). number_at (n + 8) file) there, at.2 ∙ ap (λ (n : ℕ). number_at (n + 16) file) there)) in
      let end : place + 24 + 24 * length rows ≡ place + 24 * length (k ∷ rows) = omega arith in
      eight_back place k.number (omega (arith, within)) number
      ∙ ap (λ (l : List ℕ). eight k.number ++ l) (eight_back (place + 8) k.time (omega (arith, within)) time)
      ∙ ap (λ (l : List ℕ). eight k.number ++ eight k.time ++ l) (eight_back (place + 8 + 8) k.place (omega (arith, within)) spot)
      ∙ ap (λ (n : ℕ). eight k.number ++ eight k.time ++ eight k.place ++ drop n file) next
      ∙ ap (λ (l : List ℕ). eight k.number ++ eight k.time ++ eight k.place ++ l) (rest ∙ ap (λ (n : ℕ). flat_map row_bytes rows ++ drop n file) end)

  -- a file that has all of a queue is its image
  pub file_is_image : (book : BookView) → take 8 file ≡ opening 1 → book.arena ≡ arena_in file → book.slots ≡ slots_in file → book.admitted ≡ admitted_in file
      → last_field book.last ≡ last_in file → length book.rows ≡ count_in file
      → ((row : ℕ) → row < length book.rows →
      ((get_or book.rows row no_kept).number ≡ number_in row file) × ((get_or book.rows row no_kept).time ≡ time_in row file)
      × ((get_or book.rows row no_kept).place ≡ place_in row file))
      → book.bytes ≡ arena_bytes file → length file ≡ arena_start file + arena_in file → file ≡ image book
  file_is_image book opened arena slots admitted last count rows bytes_are whole =
      let start : arena_start file ≡ 48 + 24 * length book.rows = ap (λ (n : ℕ). 48 + 24 * n) (sym count) in
      let size : arena_start file + arena_in file - arena_start file ≡ arena_in file = omega arith in
      let behind : drop (48 + 24 * length book.rows) file ≡ book.bytes =
      ap (λ (n : ℕ). drop n file) (sym start)
      ∙ sym (take_all (arena_in file) (drop (arena_start file) file) (omega (arith, whole, length-drop (arena_start file) file)))
      ∙ ap (λ (n : ℕ). take n (drop (arena_start file) file)) (sym size) ∙ sym bytes_are in
      let tail : drop 48 file ≡ flat_map row_bytes book.rows ++ book.bytes =
      rows_back book.rows 48 (omega (arith, whole, start)) rows ∙ ap (λ (l : List ℕ). flat_map row_bytes book.rows ++ l) behind in
      sym (take-append-drop 8 file)
      ∙ ap (λ (l : List ℕ). l ++ drop 8 file) opened
      ∙ ap (λ (l : List ℕ). opening 1 ++ l) (eight_back 8 book.arena (omega (arith, whole, start)) arena)
      ∙ ap (λ (l : List ℕ). opening 1 ++ eight book.arena ++ l) (eight_back 16 book.slots (omega (arith, whole, start)) slots)
      ∙ ap (λ (l : List ℕ). opening 1 ++ eight book.arena ++ eight book.slots ++ l) (eight_back 24 book.admitted (omega (arith, whole, start)) admitted)
      ∙ ap (λ (l : List ℕ). opening 1 ++ eight book.arena ++ eight book.slots ++ eight book.admitted ++ l)
      (eight_back 32 (last_field book.last) (omega (arith, whole, start)) last)
      ∙ ap (λ (l : List ℕ). opening 1 ++ eight book.arena ++ eight book.slots ++ eight book.admitted ++ eight (last_field book.last) ++ l)
      (eight_back 40 (length book.rows) (omega (arith, whole, start)) count)
      ∙ ap (λ (l : List ℕ). opening 1 ++ eight book.arena ++ eight book.slots ++ eight book.admitted ++ eight (last_field book.last) ++ eight (length book.rows) ++ l) tail
