-- The spans that are some part of the arena, gathered one after another; the others are in no one's way.
use Rattle.std.proofs.Common.{◌≡◌, ◌∙◌, ℕ, ◌+◌, ◌<◌, ◌≤◌, Bool, true, false, cond, List, [], ◌∷◌, ◌++◌, length, take, set, get_or, refl, sym, ap, subst, inl, inr, arith}
use Rattle.std.specs.Prelude.{filter, is_some}
use Rattle.std.specs.List.{AllByRecursion}
use Rattle.std.proofs.lemmas.Bool.{cases_lt, le-ltb, lt-ltb}
use Rattle.std.proofs.lemmas.List.{append-nil, take_more, take_more_set}
use Rattle.std.proofs.lemmas.List.Elements.{filter-append}
use Rattle.ldm_types.specs.Arena.{fit}
use Rattle.ldm_model.proofs.Space.{space-fit}
use Rattle.ldm_book.specs.declared.spans.Span.{Span}
use Rattle.ldm_book.specs.Spans.{has_gap, is_some_part}
use Rattle.ldm_book.proofs.SpanLemmas.{IsBeside, gap-found, room-found, same_bool}

more : (all : List Span) (place : ℕ) (none span : Span) → place < length all → span ≡ get_or all place none
    → filter is_some_part (take (place + 1) all) ≡ filter is_some_part (take place all) ++ filter is_some_part (span ∷ [])
more all place none span inside is =
    ap (filter is_some_part) (take_more all place none inside) ∙ filter-append is_some_part (take place all) (get_or all place none ∷ [])
    ∙ ap (λ (s : Span). filter is_some_part (take place all) ++ filter is_some_part (s ∷ [])) (sym is)

-- one that is some part is written behind the others
pub one_more : (spans all : List Span) (count place : ℕ) (none span : Span) → count < length spans → place < length all → span ≡ get_or all place none → is_some_part span ≡ true
    → take count spans ≡ filter is_some_part (take place all) → take (count + 1) (set spans count span) ≡ filter is_some_part (take (place + 1) all)
one_more spans all count place none span room inside is some known =
    take_more_set spans count span room ∙ ap (λ (front : List Span). front ++ span ∷ []) known
    ∙ ap (λ (b : Bool). filter is_some_part (take place all) ++ cond b (span ∷ []) []) (sym some)
    ∙ sym (more all place none span inside is)

-- another is passed over
pub none_more : (spans all : List Span) (count place : ℕ) (none span : Span) → place < length all → span ≡ get_or all place none → is_some_part span ≡ false
    → take count spans ≡ filter is_some_part (take place all) → take count spans ≡ filter is_some_part (take (place + 1) all)
none_more spans all count place none span inside is other known =
    known ∙ sym (append-nil (filter is_some_part (take place all)))
    ∙ ap (λ (b : Bool). filter is_some_part (take place all) ++ cond b (span ∷ []) []) (sym other)
    ∙ sym (more all place none span inside is)

-- beside the parts is beside all spans
beside_all : (at need : ℕ) (spans : List Span) → AllByRecursion (IsBeside at need) (filter is_some_part spans) → AllByRecursion (IsBeside at need) spans
beside_all at need [] beside = tt
beside_all at need (span ∷ spans) beside =
    let P = λ (b : Bool). AllByRecursion (IsBeside at need) (cond b (span ∷ filter is_some_part spans) (filter is_some_part spans)) in
    elim (cases_lt 0 span.back) [
      | inl some ↦ (let parts = subst P (lt-ltb 0 span.back some) beside in (parts.0, beside_all at need spans parts.1))
      | inr none ↦ (inr (omega arith), beside_all at need spans (subst P (le-ltb 0 span.back none) beside))
    ]

beside_parts : (at need : ℕ) (spans : List Span) → AllByRecursion (IsBeside at need) spans → AllByRecursion (IsBeside at need) (filter is_some_part spans)
beside_parts at need [] beside = tt
beside_parts at need (span ∷ spans) beside =
    let P = λ (b : Bool). AllByRecursion (IsBeside at need) (cond b (span ∷ filter is_some_part spans) (filter is_some_part spans)) in
    elim (cases_lt 0 span.back) [
      | inl some ↦ subst P (sym (lt-ltb 0 span.back some)) (beside.0, beside_parts at need spans beside.1)
      | inr none ↦ subst P (sym (le-ltb 0 span.back none)) (beside_parts at need spans beside.1)
    ]

-- so the parts leave a gap exactly where all spans do
pub gap-parts : (need arena : ℕ) (spans : List Span) → has_gap need arena (filter is_some_part spans) ≡ has_gap need arena spans
gap-parts need arena spans =
    same_bool (has_gap need arena (filter is_some_part spans)) (has_gap need arena spans)
    (λ gap. let room = room-found need arena (filter is_some_part spans) gap in gap-found room.start need arena spans room.within (beside_all room.start need spans room.beside))
    (λ gap. let room = room-found need arena spans gap in gap-found room.start need arena (filter is_some_part spans) room.within (beside_parts room.start need spans room.beside))

-- where nothing is held, all that the arena has is free
pub room-free : (need arena : ℕ) → 0 < need → need ≤ arena → is_some (fit need [] arena) ≡ true
room-free need arena some inside = space-fit need arena [] some (record { start = 0; above = omega arith; within = omega arith; free = λ i low high. refl })
