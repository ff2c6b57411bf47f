-- Texts that fit into metadata.
use Rattle.std.proofs.Common.{◌≡◌, ℕ, zero, suc, ◌+◌, ◌<◌, ◌≤◌, Bool, true, false, cond, inl, inr, ◌||◌, List, [], ◌∷◌, ◌++◌, length, get_or, eqb, ltb, Option, Some, None, refl, sym, ap, ◌∙◌, arith}
use Rattle.std.proofs.lemmas.Bool.{le-ltb, lt-ltb, or_parts, false≢true, cases_Bool, cond-true}
use Rattle.std.proofs.lemmas.List.Quantifiers.{position-Some}
use Rattle.std.specs.List.{list_any, position_or_len}
use Rattle.std.specs.Prelude.{not, position}
use Rattle.ldm_types.specs.declared.info.InfoFault.{InfoFault}
use Rattle.ldm_types.specs.Info.{Metadata, TextsFit, texts_fault}

free_at : (test : ℕ → Bool) (xs : List ℕ) (i : ℕ) → list_any test xs ≡ false → i < length xs → test (get_or xs i 0) ≡ false
free_at test [] i free within = absurd (omega arith)
free_at test (x ∷ xs) zero free within = (or_parts (test x) (list_any test xs) free).0
free_at test (x ∷ xs) (suc i) free within = free_at test xs i (or_parts (test x) (list_any test xs) free).1 (omega arith)

free_both : (test : ℕ → Bool) (xs ys : List ℕ) → list_any test xs ≡ false → list_any test ys ≡ false → list_any test (xs ++ ys) ≡ false
free_both test [] ys in_xs in_ys = in_ys
free_both test (x ∷ xs) ys in_xs in_ys =
    let parts = or_parts (test x) (list_any test xs) in_xs in
    ap (λ (b : Bool). b || list_any test (xs ++ ys)) parts.0 ∙ free_both test xs ys parts.1 in_ys

found_none : (test : ℕ → Bool) (xs : List ℕ) → list_any test xs ≡ false → (o : Option ℕ) → position test xs ≡ o → o ≡ None
found_none test xs free None is = refl
found_none test xs free (Some i) is =
    let at = position-Some test xs i 0 is in
    absurd (false≢true (sym (free_at test xs i free at.0) ∙ at.1))

pub texts_fit : (origin ident : List ℕ) → length origin ≤ 64 → length ident ≤ 255 → list_any (λ byte. eqb byte 0) origin ≡ false
    → list_any (λ byte. eqb byte 0) ident ≡ false → texts_fault origin ident ≡ None
texts_fit origin ident origin_short ident_short in_origin in_ident =
    let a : ltb 64 (length origin) ≡ false = le-ltb _ _ origin_short in
    let b : ltb 255 (length ident) ≡ false = le-ltb _ _ ident_short in
    let c = found_none (λ byte. eqb byte 0) (origin ++ ident) (free_both (λ byte. eqb byte 0) origin ident in_origin in_ident) (position (λ byte. eqb byte 0) (origin ++ ident)) refl in
    rw (a, b, c) refl

pub no_fault : (origin ident : List ℕ) (fault : InfoFault) → texts_fault origin ident ≡ Some fault → length origin ≤ 64 → length ident ≤ 255
    → list_any (λ byte. eqb byte 0) origin ≡ false → list_any (λ byte. eqb byte 0) ident ≡ false → ⊥
no_fault origin ident fault faulty origin_short ident_short in_origin in_ident =
    let fits = texts_fit origin ident origin_short ident_short in_origin in_ident in absurd cc

-- ---- and the other way round: no zero byte stands in texts that fit

found_before : (test : ℕ → Bool) (xs : List ℕ) → list_any test xs ≡ true → position_or_len test xs < length xs
found_before test [] e = absurd (false≢true e)
found_before test (x ∷ xs) e = by_test (test x) e (found_before test xs)
  where
    by_test : (b : Bool) → (b || list_any test xs) ≡ true → (list_any test xs ≡ true → position_or_len test xs < length xs)
        → cond (not b) (1 + position_or_len test xs) 0 < suc (length xs)
    by_test true e later = omega arith
    by_test false e later = let behind = later e in omega arith

free_of : (test : ℕ → Bool) (xs : List ℕ) → position test xs ≡ None → list_any test xs ≡ false
free_of test xs none =
    elim (cases_Bool (list_any test xs)) [
      | inl some ↦
          let e : Some (position_or_len test xs) ≡ None =
          sym (cond-true (ltb (position_or_len test xs) (length xs)) (Some (position_or_len test xs)) None (lt-ltb (position_or_len test xs) (length xs) (found_before test xs some))) ∙ none in
          absurd (cc e)
      | inr free ↦ free
    ]

free_parts : (test : ℕ → Bool) (xs ys : List ℕ) → list_any test (xs ++ ys) ≡ false → (list_any test xs ≡ false) × (list_any test ys ≡ false)
free_parts test [] ys free = (refl, free)
free_parts test (x ∷ xs) ys free =
    let parts = or_parts (test x) (list_any test (xs ++ ys)) free in
    let behind = free_parts test xs ys parts.1 in
    (ap (λ (b : Bool). b || list_any test xs) parts.0 ∙ behind.0, behind.1)

pub texts_free : (info : Metadata) → TextsFit info → (list_any (λ byte. eqb byte 0) info.origin ≡ false) × (list_any (λ byte. eqb byte 0) info.ident ≡ false)
texts_free info fit = free_parts (λ byte. eqb byte 0) info.origin info.ident (free_of (λ byte. eqb byte 0) (info.origin ++ info.ident) fit.no_nul)
