-- The metadata of bulletins are within their bounds.
use Rattle.std.proofs.Common.{◌≡◌, ◌∙◌, ℕ, ◌≤◌, Bool, true, false, ◌==◌, ◌||◌, List, [], ◌∷◌, ◌++◌, length, eqb, ltb, Option, Some, None, inl, inr, refl, sym, arith}
use Rattle.std.specs.Prelude.{not, position}
use Rattle.std.specs.List.{list_all, list_any}
use Rattle.std.proofs.lemmas.Bool.{cases_Bool, ltb-false}
use Rattle.ldm_types.specs.declared.info.InfoFault.{InfoFault}
use Rattle.ldm_types.specs.declared.info.InfoFault.TheVariants.{NulByte, OriginLong}
use Rattle.ldm_types.specs.Info.{Metadata, texts_fault}
use Rattle.ldm_answers.proofs.Fitting.{texts_fit, texts_free}
use Rattle.ldm_wmo.specs.Headings.{fits, is_heading, long_form, short_form, stands_for}
use Rattle.ldm_wmo.proofs.Spelled.{IsOther, and_parts, heading_without}

nul_is : IsOther 0
nul_is = record { letter = refl; digit = refl; space = refl; blank = refl }

any_none : (xs : List ℕ) → list_all (λ b. not (b == 0)) xs ≡ true → list_any (λ byte. eqb byte 0) xs ≡ false
any_none [] all = refl
any_none (x ∷ xs) all =
    let parts = and_parts (not (x == 0)) (list_all (λ b. not (b == 0)) xs) all in
    by_first (x == 0) parts.0 (any_none xs parts.1)
  where
    by_first : (b : Bool) → not b ≡ true → list_any (λ byte. eqb byte 0) xs ≡ false → (b || list_any (λ byte. eqb byte 0) xs) ≡ false
    by_first true is rest = absurd cc
    by_first false is rest = rest

fits_length : (form bytes : List ℕ) → fits form bytes ≡ true → length bytes ≡ length form
unfolding fits
fits_length [] [] fit = refl
fits_length [] (byte ∷ bytes) fit = absurd cc
fits_length (symbol ∷ form) [] fit = absurd cc
fits_length (symbol ∷ form) (byte ∷ bytes) fit =
    let parts = and_parts (stands_for symbol byte) (fits form bytes) fit in
    let rest = fits_length form bytes parts.1 in
    omega arith

heading_short : (heading : List ℕ) → is_heading heading ≡ true → length heading ≤ 255
heading_short heading is = elim (cases_Bool (fits short_form heading)) [
  | inl short ↦ (let n = fits_length short_form heading short in omega arith)
  | inr other ↦ (let n = fits_length long_form heading (rw other at is) in omega arith)
]

record IsOrigin (origin : List ℕ) : Type 0 where
  pub short : length origin ≤ 64
  pub free : list_any (λ byte. eqb byte 0) origin ≡ false

origin_of : (origin : List ℕ) → texts_fault origin [] ≡ None → IsOrigin origin
origin_of origin named = elim (cases_Bool (ltb 64 (length origin))) [
  | inl long ↦
      let faulty : texts_fault origin [] ≡ Some OriginLong = rw long refl in
      absurd (never OriginLong (sym faulty ∙ named))
  | inr short ↦ record { short = ltb-false 64 (length origin) short; free = by_place short (position (λ byte. eqb byte 0) (origin ++ [])) refl }
]
  where
    never : (fault : InfoFault) → Some fault ≡ None → ⊥
    never fault is = cc is

    by_place : ltb 64 (length origin) ≡ false → (o : Option ℕ) → position (λ byte. eqb byte 0) (origin ++ []) ≡ o → list_any (λ byte. eqb byte 0) origin ≡ false
    by_place short (Some at) is =
        let faulty : texts_fault origin [] ≡ Some (NulByte at) = rw (short, is) refl in
        absurd (never (NulByte at) (sym faulty ∙ named))
    by_place short None is =
        let info : Metadata = record { arrival = 0; signature = []; origin = origin; feed = 0; seqno = 0; ident = []; size = 0 } in
        (texts_free info (record { origin_short = ltb-false 64 (length origin) short; ident_short = omega arith; no_nul = is })).0

-- with an origin that has no fault, neither has the heading of a bulletin
pub named : (origin heading : List ℕ) → texts_fault origin [] ≡ None → is_heading heading ≡ true → texts_fault origin heading ≡ None
named origin heading no_fault is =
    let o = origin_of origin no_fault in
    texts_fit origin heading o.short (heading_short heading is) o.free (any_none heading (heading_without 0 nul_is heading is))
