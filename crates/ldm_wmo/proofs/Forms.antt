-- Bytes as a form says.
use Rattle.std.proofs.Common.{◌≡◌, ℕ, ◌+◌, ◌<◌, ◌≤◌, ◌&&◌, Bool, true, false, List, [], ◌∷◌, length, get_or, drop, take, min, refl, sym, ap, ◌∙◌, arith, inl, inr}
use Rattle.std.proofs.lemmas.Bool.{cases_Bool}
use Rattle.std.proofs.lemmas.List.{drop_more, drop_all, length-take}
use Rattle.ldm_wmo.specs.Headings.{fits, stands_for}
use Rattle.ldm_wmo.specs.Lines.{begins_so}

-- as many bytes as symbols
pub other_lengths : (form bytes : List ℕ) → (length form ≡ length bytes → ⊥) → fits form bytes ≡ false
unfolding fits
other_lengths [] [] ne = absurd (ne refl)
other_lengths [] (byte ∷ bytes) ne = refl
other_lengths (symbol ∷ form) [] ne = refl
other_lengths (symbol ∷ form) (byte ∷ bytes) ne =
    elim (cases_Bool (stands_for symbol byte)) [
      | inl is ↦ rw is (other_lengths form bytes (λ same. ne (omega arith)))
      | inr isnt ↦ rw isnt refl
    ]

pub fits_at : (form bytes : List ℕ) (i : ℕ) → i < length form → i < length bytes
    → fits (drop i form) (drop i bytes) ≡ (stands_for (get_or form i 0) (get_or bytes i 0) && fits (drop (i + 1) form) (drop (i + 1) bytes))
unfolding fits
fits_at form bytes i in_form in_bytes = rw (drop_more form i 0 in_form, drop_more bytes i 0 in_bytes) refl

pub fits_end : (form bytes : List ℕ) (i : ℕ) → length form ≤ i → length bytes ≤ i → fits (drop i form) (drop i bytes) ≡ true
unfolding fits
fits_end form bytes i form_ends bytes_end = rw (drop_all i form form_ends, drop_all i bytes bytes_end) refl

pub fits_short : (form line : List ℕ) → length line < length form → fits form (take (length form) line) ≡ false
fits_short form line short =
    let len : length (take (length form) line) ≡ min (length form) (length line) = length-take (length form) line in
    other_lengths form (take (length form) line) (λ same. omega arith)

pub too_short : (form line : List ℕ) → length line < length form → begins_so form (length form) line ≡ false
too_short form line short = rw (fits_short form line short) refl
