-- Which bytes stay, and which may be any.
use Rattle.std.proofs.Common.{◌≡◌, ◌⊎◌, inl, inr, ⊎_elim, ℕ, zero, suc, ◌<◌, ◌≤◌, true, List, [], ◌∷◌, ◌++◌, length, take, drop, get_or, Option, Some, None, refl, sym, ap, subst, map, arith, eq-eqb}
use Rattle.std.proofs.lemmas.List.{append-nil}
use Rattle.std.proofs.lemmas.Bool.{and_parts, and_from, eqb-true}
use Rattle.ldm_disk_memory.specs.MemDisk.{allows, fits, loosened}

-- a file with the bytes that stay put in their places
abbrev pub overlay : List (Option ℕ) → List ℕ → List ℕ
overlay [] left = left
overlay (kept ∷ stays) [] = []
overlay (None ∷ stays) (byte ∷ left) = byte ∷ overlay stays left
overlay (Some kept ∷ stays) (byte ∷ left) = kept ∷ overlay stays left

pub length-overlay : (stays : List (Option ℕ)) (left : List ℕ) → length (overlay stays left) ≡ length left
length-overlay [] left = refl
length-overlay (kept ∷ stays) [] = refl
length-overlay (None ∷ stays) (byte ∷ left) = ap suc (length-overlay stays left)
length-overlay (Some kept ∷ stays) (byte ∷ left) = ap suc (length-overlay stays left)

pub fits-overlay : (stays : List (Option ℕ)) (left : List ℕ) → fits stays (overlay stays left) ≡ true
fits-overlay [] left = refl
fits-overlay (kept ∷ stays) [] = refl
fits-overlay (None ∷ stays) (byte ∷ left) = fits-overlay stays left
fits-overlay (Some kept ∷ stays) (byte ∷ left) = and_from _ _ (eq-eqb kept kept refl) (fits-overlay stays left)

-- what fits stays as it is
pub overlay_fits : (stays : List (Option ℕ)) (left : List ℕ) → fits stays left ≡ true → overlay stays left ≡ left
overlay_fits [] left fit = refl
overlay_fits (kept ∷ stays) [] fit = refl
overlay_fits (None ∷ stays) (byte ∷ left) fit = ap (λ (l : List ℕ). byte ∷ l) (overlay_fits stays left fit)
overlay_fits (Some kept ∷ stays) (byte ∷ left) fit =
    let parts = and_parts _ _ fit in
    let same : byte ≡ kept = eqb-true byte kept parts.0 in
    let rest = overlay_fits stays left parts.1 in
    cc (same, rest)

-- what fits but for a range stays as it is outside of it
pub overlay_outside : (start end : ℕ) (stays : List (Option ℕ)) (left : List ℕ) (place : ℕ) → fits (loosened start end stays) left ≡ true
    → (place < start) ⊎ (end ≤ place) → get_or (overlay stays left) place 0 ≡ get_or left place 0
overlay_outside start end [] left place fit outside = refl
overlay_outside start end (kept ∷ stays) [] place fit outside = refl
overlay_outside start zero (kept ∷ stays) (byte ∷ left) place fit outside =
    ap (λ (l : List ℕ). get_or l place 0) (overlay_fits (kept ∷ stays) (byte ∷ left) fit)
overlay_outside zero (suc end) (kept ∷ stays) (byte ∷ left) zero fit outside = absurd (omega arith)
overlay_outside zero (suc end) (None ∷ stays) (byte ∷ left) (suc place) fit outside = overlay_outside zero end stays left place fit (inr (omega arith))
overlay_outside zero (suc end) (Some kept ∷ stays) (byte ∷ left) (suc place) fit outside = overlay_outside zero end stays left place fit (inr (omega arith))
overlay_outside (suc start) (suc end) (None ∷ stays) (byte ∷ left) zero fit outside = refl
overlay_outside (suc start) (suc end) (Some kept ∷ stays) (byte ∷ left) zero fit outside = sym (eqb-true byte kept (and_parts _ _ fit).0)
overlay_outside (suc start) (suc end) (None ∷ stays) (byte ∷ left) (suc place) fit outside =
    overlay_outside start end stays left place fit (⊎_elim (λ below. inl (omega arith)) (λ above. inr (omega arith)) outside)
overlay_outside (suc start) (suc end) (Some kept ∷ stays) (byte ∷ left) (suc place) fit outside =
    overlay_outside start end stays left place (and_parts _ _ fit).1 (⊎_elim (λ below. inl (omega arith)) (λ above. inr (omega arith)) outside)

-- a file has the bytes of another outside of a range
abbrev pub SameOutside : ℕ → ℕ → List ℕ → List ℕ → Type 0
SameOutside start end before after =
    (place : ℕ) → place < length after → (place < start) ⊎ (end ≤ place) → (place < length before) × (get_or after place 0 ≡ get_or before place 0)

-- an empty file always fits
pub fits-nil : (stays : List (Option ℕ)) → fits stays [] ≡ true
fits-nil [] = refl
fits-nil (kept ∷ stays) = refl

loosened_nowhere : (start : ℕ) (stays : List (Option ℕ)) → loosened start zero stays ≡ stays
loosened_nowhere start [] = refl
loosened_nowhere start (kept ∷ stays) = refl

-- one place on
later : (start end start' end' : ℕ) (was byte : ℕ) (before after : List ℕ) → SameOutside start' end' (was ∷ before) (byte ∷ after)
    → ((place : ℕ) → (place < start) ⊎ (end ≤ place) → (suc place < start') ⊎ (end' ≤ suc place)) → SameOutside start end before after
later start end start' end' was byte before after same shift place within outside =
    let there = same (suc place) (omega arith) (shift place outside) in
    (omega (arith, there.0), there.1)

-- such a file fits, but for the range, where the other does
pub fits_outside : (start end : ℕ) (stays : List (Option ℕ)) (before after : List ℕ) → fits stays before ≡ true → SameOutside start end before after
    → fits (loosened start end stays) after ≡ true
fits_outside start end [] before after fit same = refl
fits_outside start zero (kept ∷ stays) before [] fit same = refl
fits_outside zero (suc end) (kept ∷ stays) before [] fit same = refl
fits_outside (suc start) (suc end) (kept ∷ stays) before [] fit same = refl
fits_outside start zero (kept ∷ stays) [] (byte ∷ after) fit same = absurd (omega (arith, (same 0 (omega arith) (inr (omega arith))).0))
fits_outside zero (suc end) (kept ∷ stays) [] (byte ∷ after) fit same =
    fits_outside zero end stays [] after (fits-nil stays)
    (λ place within outside.
    let there = same (suc place) (omega arith) (⊎_elim (λ below. absurd (omega arith)) (λ above. inr (omega arith)) outside) in
    absurd (omega (arith, there.0)))
fits_outside (suc start) (suc end) (kept ∷ stays) [] (byte ∷ after) fit same = absurd (omega (arith, (same 0 (omega arith) (inl (omega arith))).0))
fits_outside start zero (kept ∷ stays) (was ∷ before) (byte ∷ after) fit same =
    let parts = and_parts _ _ fit in
    let first : byte ≡ was = (same 0 (omega arith) (inr (omega arith))).1 in
    and_from _ _ (subst (λ n. allows kept n ≡ true) (sym first) parts.0)
    (subst (λ (l : List (Option ℕ)). fits l after ≡ true) (loosened_nowhere start stays)
    (fits_outside start zero stays before after parts.1 (later start zero start zero was byte before after same (λ place outside. inr (omega arith)))))
fits_outside zero (suc end) (kept ∷ stays) (was ∷ before) (byte ∷ after) fit same =
    fits_outside zero end stays before after (and_parts _ _ fit).1
    (later zero end zero (suc end) was byte before after same (λ place outside. ⊎_elim (λ below. absurd (omega arith)) (λ above. inr (omega arith)) outside))
fits_outside (suc start) (suc end) (kept ∷ stays) (was ∷ before) (byte ∷ after) fit same =
    let parts = and_parts _ _ fit in
    let first : byte ≡ was = (same 0 (omega arith) (inl (omega arith))).1 in
    and_from _ _ (subst (λ n. allows kept n ≡ true) (sym first) parts.0)
    (fits_outside start end stays before after parts.1
    (later start end (suc start) (suc end) was byte before after same
    (λ place outside. ⊎_elim (λ below. inl (omega arith)) (λ above. inr (omega arith)) outside)))

-- what is joined of two files that fit does
pub fits_joined : (stays : List (Option ℕ)) (front other : List ℕ) → fits stays front ≡ true → fits stays other ≡ true
    → fits stays (front ++ drop (length front) other) ≡ true
fits_joined [] front other fit fit_other = refl
fits_joined (kept ∷ stays) [] other fit fit_other = fit_other
fits_joined (kept ∷ stays) (byte ∷ front) [] fit fit_other =
    subst (λ (l : List ℕ). fits (kept ∷ stays) l ≡ true) (sym (append-nil (byte ∷ front))) fit
fits_joined (kept ∷ stays) (byte ∷ front) (was ∷ other) fit fit_other =
    and_from _ _ (and_parts _ _ fit).0 (fits_joined stays front other (and_parts _ _ fit).1 (and_parts _ _ fit_other).1)

-- a front of a file that fits does
pub fits-take : (stays : List (Option ℕ)) (n : ℕ) (left : List ℕ) → fits stays left ≡ true → fits stays (take n left) ≡ true
fits-take [] n left fit = refl
fits-take (kept ∷ stays) zero left fit = refl
fits-take (kept ∷ stays) (suc n) [] fit = refl
fits-take (kept ∷ stays) (suc n) (byte ∷ left) fit = and_from _ _ (and_parts _ _ fit).0 (fits-take stays n left (and_parts _ _ fit).1)

-- each file fits itself
pub fits_itself : (bytes : List ℕ) → fits (map (λ (byte : ℕ). Some byte) bytes) bytes ≡ true
fits_itself [] = refl
fits_itself (byte ∷ bytes) = and_from _ _ (eq-eqb byte byte refl) (fits_itself bytes)

-- and nothing else of its length does
pub fits_only : (bytes left : List ℕ) → length bytes ≡ length left → fits (map (λ (byte : ℕ). Some byte) bytes) left ≡ true → left ≡ bytes
fits_only [] [] same fit = refl
fits_only [] (byte ∷ left) same fit = absurd (omega arith)
fits_only (was ∷ bytes) [] same fit = absurd (omega arith)
fits_only (was ∷ bytes) (byte ∷ left) same fit =
    let parts = and_parts _ _ fit in
    let first : byte ≡ was = eqb-true byte was parts.0 in
    let rest = fits_only bytes left (omega arith) parts.1 in
    cc (first, rest)
