-- What a change does to the files that a crash may leave.
use Rattle.std.proofs.Common.{◌≡◌, ◌⊎◌, inl, inr, ⊎_elim, ℕ, ◌+◌, ◌-◌, ◌<◌, ◌≤◌, min, max, ◌==◌, Bool, true, List, [], ◌∷◌, ◌++◌, length, take, drop, replicate, get_or, refl, sym, ◌∙◌, ap, subst, arith, length-append, length-take, length-drop, eq-eqb}
use Rattle.std.specs.List.{list_any}
use Rattle.std.proofs.lemmas.Bool.{or_cases, or_left, and_parts, and_from, eqb-true}
use Rattle.std.proofs.lemmas.List.{length-replicate, get_or_append_left, get_or-append_right, get_or-take, get_or-drop}
use Rattle.ldm_disk_memory.specs.declared.mem_file.Change.{Change}
use Rattle.ldm_disk.specs.Model.{Step, IsStep, written_at, cut_to, step_of_write, step_of_cut}
use Rattle.ldm_disk.specs.Moments.{Goes}
use Rattle.ldm_disk_memory.specs.MemDisk.{Fragile, MemFileState, changed, leaves, fits, told_by_file, file_changed, file_written, file_cut, change_of_write}
use Rattle.ldm_disk_memory.proofs.Pieces.{overlay, length-overlay, fits-overlay, overlay_outside, SameOutside, fits_outside, fits_joined, fits-take}
use Rattle.ldm_disk_memory.proofs.MemMoments.{leaves_pending, all_pending, moment_elapses, nothing_goes}

abbrev Outside : Change → ℕ → Type 0
Outside change place = (place < change.start) ⊎ (change.end ≤ place)

-- a file that a crash may leave after a change comes of one that it might leave before
record Comes (s : MemFileState) (change : Change) (left : List ℕ) : Type 0 where
  before : List ℕ
  was : leaves s.now before ≡ true
  long : (length left ≡ length before) ⊎ ((length left ≡ change.len) × (length before ≡ length s.bytes))
  outside : (place : ℕ) → place < length before → place < length left → Outside change place → get_or left place 0 ≡ get_or before place 0

abbrev has_length : Fragile → ℕ → Bool
has_length fragile n = list_any (λ len. len == n) fragile.lengths

module _ (s : MemFileState) (change : Change) (left : List ℕ) (reads : leaves s.now s.bytes ≡ true) where
  -- of the new length: its front, and then what was read
  from_new : change.len ≡ length left → fits (changed change s.now).stays left ≡ true → Comes s change left
  from_new long fit =
      let over = overlay s.now.stays left in
      let front = take (length s.bytes) over in
      let before = front ++ drop (length front) s.bytes in
      let over_long : length over ≡ length left = length-overlay s.now.stays left in
      let front_long : length front ≡ min (length s.bytes) (length left) = omega (arith, length-take (length s.bytes) over, over_long) in
      let same : length before ≡ length s.bytes =
      omega (arith, front_long, length-append front (drop (length front) s.bytes), length-drop (length front) s.bytes) in
      let read = and_parts _ _ reads in
      record {
        before = before;
        was = and_from _ _ (subst (λ (n : ℕ). has_length s.now n ≡ true) (sym same) read.0)
            (fits_joined s.now.stays front s.bytes (fits-take s.now.stays (length s.bytes) over (fits-overlay s.now.stays left)) read.1);
        long = inr (sym long, same);
        outside = λ place within there outside.
            sym (get_or_append_left front (drop (length front) s.bytes) 0 place (omega (arith, within, there, same, front_long))
            ∙ get_or-take (length s.bytes) over place 0 (omega (arith, within, same))
            ∙ overlay_outside change.start change.end s.now.stays left place fit outside);
      }

  -- of an old length: the bytes that stay are put in their places
  from_old : has_length s.now (length left) ≡ true → fits (changed change s.now).stays left ≡ true → Comes s change left
  from_old long fit =
      let same = length-overlay s.now.stays left in
      record {
        before = overlay s.now.stays left;
        was = and_from _ _ (subst (λ (n : ℕ). has_length s.now n ≡ true) (sym same) long) (fits-overlay s.now.stays left);
        long = inl (sym same);
        outside = λ place within there outside. sym (overlay_outside change.start change.end s.now.stays left place fit outside);
      }

  comes : leaves (changed change s.now) left ≡ true → Comes s change left
  comes leaves_it =
      let parts = and_parts _ _ leaves_it in
      ⊎_elim (λ new. from_new (eqb-true _ _ new) parts.1) (λ old. from_old old parts.1) (or_cases _ _ parts.0)

-- the file as it reads after a change is one that a crash may leave
pub changed_leaves : (s : MemFileState) (change : Change) (after : List ℕ) → leaves s.now s.bytes ≡ true → length after ≡ change.len
    → SameOutside change.start change.end s.bytes after → leaves (changed change s.now) after ≡ true
changed_leaves s change after reads long same =
    and_from _ _ (or_left _ _ (eq-eqb change.len (length after) (sym long)))
    (fits_outside change.start change.end s.now.stays s.bytes after (and_parts _ _ reads).1 same)

-- a change makes a step, where what comes of a file by it is a step from it
changed_goes : (s : MemFileState) (change : Change) (after : List ℕ) (step : Step) → leaves s.now s.bytes ≡ true → leaves (changed change s.now) after ≡ true
    → ((left : List ℕ) (from : Comes s change left) → IsStep step from.before left) → Goes step (told_by_file s) (told_by_file (file_changed change after s))
changed_goes s change after step reads then steps = record {
  crash = λ left leaves_it.
      let from = comes s change left reads (all_pending (file_changed change after s) left then leaves_it) in
      (from.before, leaves_pending s from.before from.was, steps left from);
  time = moment_elapses s (file_changed change after s) reads refl;
}

-- a piece that is not empty
module _ (at byte : ℕ) (rest bytes : List ℕ) where
  abbrev piece : List ℕ
  piece = byte ∷ rest

  abbrev filled : List ℕ
  filled = take at bytes ++ replicate (at - length bytes) 0

  length-filled : length filled ≡ at
  length-filled = omega (arith, length-append (take at bytes) (replicate (at - length bytes) 0), length-take at bytes, length-replicate {A = ℕ} (at - length bytes) 0)

  length-front : length (filled ++ piece) ≡ at + length piece
  length-front = omega (arith, length-append filled piece, length-filled)

  pub length-written : length (written_at at piece bytes) ≡ max (length bytes) (at + length piece)
  length-written = omega (arith, length-append (filled ++ piece) (drop (at + length piece) bytes), length-front, length-drop (at + length piece) bytes)

  pub written_same : SameOutside (min at (length bytes)) (at + length piece) bytes (written_at at piece bytes)
  written_same place within (inl below) = (
    omega (arith, below),
    get_or_append_left (filled ++ piece) (drop (at + length piece) bytes) 0 place (omega (arith, below, length-front))
        ∙ get_or_append_left filled piece 0 place (omega (arith, below, length-filled))
        ∙ get_or_append_left (take at bytes) (replicate (at - length bytes) 0) 0 place (omega (arith, below, length-take at bytes))
        ∙ get_or-take at bytes place 0 (omega (arith, below)),
  )
  written_same place within (inr above) =
      let end = at + length piece in
      let there : end + (place - end) ≡ place = omega (arith, above) in (
        omega (arith, above, within, length-written),
        get_or-append_right (filled ++ piece) (drop end bytes) end place 0 length-front above
            ∙ get_or-drop end bytes (place - end) 0 ∙ ap (λ (p : ℕ). get_or bytes p 0) there,
      )

pub length-cut : (len : ℕ) (bytes : List ℕ) → length (cut_to len bytes) ≡ len
length-cut len bytes = omega (arith, length-append (take len bytes) (replicate (len - length bytes) 0), length-take len bytes, length-replicate {A = ℕ} (len - length bytes) 0)

pub cut_same : (len : ℕ) (bytes : List ℕ) → SameOutside (length bytes) len bytes (cut_to len bytes)
cut_same len bytes place within outside =
    let short : place < len = omega (arith, within, length-cut len bytes) in
    let there : place < length bytes = ⊎_elim (λ below. below) (λ above. absurd (omega (arith, above, short))) outside in (
      there,
      get_or_append_left (take len bytes) (replicate (len - length bytes) 0) 0 place (omega (arith, short, there, length-take len bytes))
          ∙ get_or-take len bytes place 0 short,
    )

-- a write
pub written_leaves : (at : ℕ) (piece : List ℕ) (s : MemFileState) → leaves s.now s.bytes ≡ true → leaves (file_written at piece s).now (file_written at piece s).bytes ≡ true
written_leaves at [] s reads = reads
written_leaves at (byte ∷ rest) s reads =
    changed_leaves s (change_of_write at (byte ∷ rest) s.bytes) (written_at at (byte ∷ rest) s.bytes) reads (length-written at byte rest s.bytes) (written_same at byte rest s.bytes)

pub written_goes : (at : ℕ) (piece : List ℕ) (s : MemFileState) → leaves s.now s.bytes ≡ true → Goes (step_of_write at piece s.bytes) (told_by_file s) (told_by_file (file_written at piece s))
written_goes at [] s reads =
    nothing_goes (step_of_write at [] s.bytes) (λ left. record { stays = λ place within there outside. refl; long = inl refl }) (told_by_file s)
written_goes at (byte ∷ rest) s reads =
    changed_goes s (change_of_write at (byte ∷ rest) s.bytes) (written_at at (byte ∷ rest) s.bytes) (step_of_write at (byte ∷ rest) s.bytes) reads
    (written_leaves at (byte ∷ rest) s reads)
    (λ left from. record {
      stays = from.outside;
      long = ⊎_elim (λ old. inl old) (λ new. inr (new.0 ∙ ap (λ (n : ℕ). max n (at + length (byte ∷ rest))) (sym new.1))) from.long;
    })

-- a cut
pub cut_leaves : (len : ℕ) (s : MemFileState) → leaves s.now s.bytes ≡ true → leaves (file_cut len s).now (file_cut len s).bytes ≡ true
cut_leaves len s reads =
    changed_leaves s (record { start = length s.bytes; end = len; len = len }) (cut_to len s.bytes) reads (length-cut len s.bytes) (cut_same len s.bytes)

pub cut_goes : (len : ℕ) (s : MemFileState) → leaves s.now s.bytes ≡ true → Goes (step_of_cut len s.bytes) (told_by_file s) (told_by_file (file_cut len s))
cut_goes len s reads =
    changed_goes s (record { start = length s.bytes; end = len; len = len }) (cut_to len s.bytes) (step_of_cut len s.bytes) reads (cut_leaves len s reads)
    (λ left from. record { stays = from.outside; long = ⊎_elim (λ old. inl old) (λ new. inr new.0) from.long })
