-- The queued products of a book, told one by one by their places.
use Rattle.std.proofs.Common.{◌≡◌, ◌∙◌, ℕ, zero, suc, ◌+◌, ◌≤◌, List, [], ◌∷◌, length, drop, Option, Some, None, inl, inr, refl, ap, subst, add-one, arith}
use Rattle.std.specs.Prelude.{slice_get}
use Rattle.std.proofs.Math.Seq.{drop-cons}
use Rattle.std.proofs.lemmas.List.{drop_all, length-map}
use Rattle.std.proofs.lemmas.Option.{get_or_from_slice_get, slice_get_cases, slice_get_within}
use Rattle.ldm_model.specs.State.{State, Row, Queued, add_queued, queued, queued_from}
use Rattle.ldm_book.specs.View.{BookView, kept}
use Rattle.ldm_book.specs.Stands.{StandsFor}

-- ---- what is left at a place

pub left-some : {A : Type 0} (xs : List A) (i : ℕ) (x : A) → slice_get xs i ≡ Some x → drop i xs ≡ x ∷ drop (i + 1) xs
left-some {A} xs i x at =
    let within = slice_get_within xs i x at in
    rw add-one (drop-cons xs i x within ∙ ap (λ (y : A). y ∷ drop (suc i) xs) (get_or_from_slice_get xs i x x at))

pub left-none : {A : Type 0} (xs : List A) (i : ℕ) → slice_get xs i ≡ None → drop i xs ≡ []
left-none xs i none = elim ((slice_get_cases xs i).1) [ inl found ↦ let at = found.2 in absurd cc | inr past ↦ drop_all i xs past.0 ]

-- there is none at the number of slots
pub none-past : (book : BookView) (s : State) (slots : ℕ) → StandsFor book s → length book.rows ≤ slots → drop slots (queued s) ≡ []
none-past book s slots stands few =
    let many : length book.rows ≡ length (queued s) = ap length stands.rows ∙ length-map (queued s) kept in
    drop_all slots (queued s) (omega arith)

-- ---- the body of each

-- the body of each row has as many bytes as its metadata say
abbrev pub AreSized : List Row → Type 0
AreSized rows = (n : ℕ) (row : Row) → slice_get rows n ≡ Some row → length row.product.body ≡ row.product.info.size

IsSized : Option Queued → Type 0
IsSized q = (p : Queued) → q ≡ Some p → length p.product.body ≡ p.product.info.size

sized-from : (low : ℕ) (rows : List Row) → AreSized rows → (i : ℕ) → IsSized (slice_get (queued_from low rows) i)
unfolding IsSized
sized-from low [] sized i = λ p at. absurd cc
sized-from low (row ∷ rows) sized i = by_place row.place (sized-from (low + 1) rows (λ n other. sized (suc n) other)) i
  where
    by_place : (place : Option ℕ) → ((i : ℕ) → IsSized (slice_get (queued_from (low + 1) rows) i)) → (i : ℕ)
        → IsSized (slice_get (add_queued low row place (queued_from (low + 1) rows)) i)
    by_place None behind i = behind i
    by_place (Some place) behind zero = λ p at. let same : record { number = low; product = row.product; time = row.time; place = place } ≡ p = cc in
        subst (λ (q : Queued). length q.product.body ≡ q.product.info.size) same (sized 0 row refl)
    by_place (Some place) behind (suc i) = behind i

pub sized-at : (s : State) → AreSized s.rows → (i : ℕ) (q : Queued) → slice_get (queued s) i ≡ Some q → length q.product.body ≡ q.product.info.size
unfolding IsSized
sized-at s sized i q at = sized-from 0 s.rows sized i q at
