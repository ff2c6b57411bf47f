-- A product that is found lies in the arena, and so do the spans of the held ones.
use Rattle.std.proofs.Common.{◌≡◌, ℕ, zero, suc, ◌+◌, ◌≤◌, Bool, true, false, cond, List, [], ◌∷◌, map, Option, Some, None, refl, sym, subst, arith}
use Rattle.std.specs.List.{All, find}
use Rattle.ldm_types.specs.Cursors.{Places}
use Rattle.ldm_cursor.specs.Places.{held_of}
use Rattle.ldm_book.specs.declared.spans.Span.{Span}
use Rattle.std.proofs.lemmas.List.Elements.{All-append}
use Rattle.ldm_book.specs.View.{Kept, Reservations, open_kept}
use Rattle.ldm_book.specs.Products.{LieApart, at_number, kept_extent, kept_region, occupied_by, reserved_region}
use Rattle.ldm_book.specs.Spans.{held_span, held_spans, reserved_span, span_at, span_of}
use Rattle.ldm_book.proofs.ApartLemmas.{behind}

pub lie_found : (arena : ℕ) (test : Kept → Bool) (rows : List Kept) (reservations : Reservations) (k : Kept) → LieApart arena (occupied_by rows reservations) → find test rows ≡ Some k
    → k.place + kept_extent k ≤ arena
lie_found arena test [] reservations k apart e = absurd cc
lie_found arena test (r ∷ rs) reservations k apart e = by_test (test r) (lie_found arena test rs reservations k apart.2) e
  where
    by_test : (b : Bool) → (find test rs ≡ Some k → k.place + kept_extent k ≤ arena) → cond b (Some r) (find test rs) ≡ Some k → k.place + kept_extent k ≤ arena
    by_test true more e = let same : r ≡ k = cc in subst (λ (x : Kept). x.place + kept_extent x ≤ arena) same apart.0
    by_test false more e = more e

span_within : (arena : ℕ) (rows : List Kept) (reservations : Reservations) (o : Option ℕ) → LieApart arena (occupied_by rows reservations) → (span_at rows o).back ≤ arena
span_within arena rows reservations None apart = omega arith
span_within arena rows reservations (Some n) apart = by_found (find (at_number n) rows) refl
  where
    by_found : (o : Option Kept) → find (at_number n) rows ≡ o → (span_of (find (at_number n) rows)).back ≤ arena
    by_found None e = subst (λ (o : Option Kept). (span_of o).back ≤ arena) (sym e) (omega arith)
    by_found (Some k) e = subst (λ (o : Option Kept). (span_of o).back ≤ arena) (sym e) (lie_found arena (at_number n) rows reservations k apart e)

held_within : (arena : ℕ) (rows : List Kept) (reservations : Reservations) (cs : Places) → LieApart arena (occupied_by rows reservations)
    → All (λ (span : Span). span.back ≤ arena) (map (held_span rows) cs)
held_within arena rows reservations [] apart k d inside = absurd (omega arith)
held_within arena rows reservations (c ∷ cs) apart zero d inside = span_within arena rows reservations (held_of c) apart
held_within arena rows reservations (c ∷ cs) apart (suc k) d inside = held_within arena rows reservations cs apart k d (omega arith)

reserved_within : (arena : ℕ) (rs : Reservations) → LieApart arena (map reserved_region (open_kept rs)) → All (λ (span : Span). span.back ≤ arena) (map reserved_span rs)
reserved_within arena [] apart k d inside = absurd (omega arith)
reserved_within arena (None ∷ rs) apart zero d inside = omega arith
reserved_within arena (Some v ∷ rs) apart zero d inside = apart.0
reserved_within arena (None ∷ rs) apart (suc k) d inside = reserved_within arena rs apart k d (omega arith)
reserved_within arena (Some v ∷ rs) apart (suc k) d inside = reserved_within arena rs apart.2 k d (omega arith)

pub spans_within : (arena : ℕ) (rows : List Kept) (reservations : Reservations) (cs : Places) → LieApart arena (occupied_by rows reservations)
    → All (λ (span : Span). span.back ≤ arena) (held_spans rows cs reservations)
spans_within arena rows reservations cs apart =
    All-append (λ (span : Span). span.back ≤ arena) (map (held_span rows) cs) (map reserved_span reservations) (held_within arena rows reservations cs apart)
    (reserved_within arena reservations (behind arena (map kept_region rows) (map reserved_region (open_kept reservations)) apart))
