-- Where a cursor begins that is opened behind a product, and which products are for it.
use Rattle.std.proofs.Common.{◌≡◌, ◌∙◌, ℕ, ◌+◌, ◌<◌, ◌≤◌, Bool, true, false, cond, not, List, [], ◌∷◌, length, Option, Some, None, refl, sym, ap, inl, inr, arith}
use Rattle.std.specs.Prelude.{◌⊎◌, ◌&&◌, nat_le, is_some, slice_get, Contains}
use Rattle.std.specs.List.{find, range_with_len}
use Rattle.std.specs.Option.{option_map}
use Rattle.std.proofs.lemmas.Bool.{false≢true, and_parts, and_from, or_cases, or_left, or_right, leb-true, le-leb, cases_Bool, cases_lt, both_ways}
use Rattle.std.proofs.lemmas.Option.{same_Some, slice_get_within}
use Rattle.std.proofs.lemmas.Slice.Eq.{bytes_eq-Decides}
use Rattle.ldm_types.specs.Feed.{feeds_meet}
use Rattle.ldm_model.specs.declared.event.Start.{Start}
use Rattle.ldm_model.specs.declared.event.Start.TheVariants as start
use Rattle.ldm_model.specs.declared.event.Reply.TheVariants as reply
use Rattle.ldm_model.specs.State.{State, Row, Queued, end_of, queued, queued_with, has_signature, is_queued}
use Rattle.ldm_model.specs.Evict.{numbers}
use Rattle.ldm_model.specs.Cursor.{least_empty}
use Rattle.ldm_model.specs.Open.{open_cursor, open_at, open_from, open_position}
use Rattle.ldm_model.specs.Always.{SignaturesDiffer}
use Rattle.ldm_model.specs.Law.{Point, state_before, state_at, feed_of_row, is_among, is_not_below, is_due, due, given, is_present, opening}
use Rattle.ldm_model.proofs.Ascending.{IsAmong, among-from_Contains}
use Rattle.ldm_model.proofs.Coming.{IsRowOf-found, find-filter, find-range_before}
use Rattle.ldm_model.proofs.Losses.{among-due}
use Rattle.ldm_model.proofs.Rows.{numbers-from_present}
use Rattle.ldm_model.proofs.Tied.{begun_at}
use Rattle.ldm_between_ends.proofs.Gone.{gone-after}

-- a cursor that was opened has a position
pub opened-position : (s : State) (actor feed : ℕ) (from : Start) (k : ℕ) → reply.Opened k ≡ (open_cursor s actor feed from).reply → (at : ℕ) × (open_position s from ≡ Some at)
unfolding open_cursor
opened-position s actor feed from k answered = by_place (least_empty s.cursors) answered
  where
    by_position : (j : ℕ) (at : Option ℕ) → reply.Opened k ≡ (open_from s actor feed j at).reply → (x : ℕ) × (at ≡ Some x)
    by_position j None e = absurd cc
    by_position j (Some x) e = (x, refl)

    by_place : (place : Option ℕ) → reply.Opened k ≡ (open_at s actor feed from place).reply → (at : ℕ) × (open_position s from ≡ Some at)
    by_place None e = absurd cc
    by_place (Some j) e = by_position j (open_position s from) e

-- what is found passes
found-passes : {X : Type 0} (test : X → Bool) (xs : List X) (x : X) → find test xs ≡ Some x → test x ≡ true
found-passes test [] x e = absurd cc
found-passes {X} test (y ∷ xs) x e = by_test (found-passes test xs x) (test y) refl e
  where
    by_test : (find test xs ≡ Some x → test x ≡ true) → (b : Bool) → test y ≡ b → cond b (Some y) (find test xs) ≡ Some x → test x ≡ true
    by_test more true is h = let same : y ≡ x = same_Some y x h in ap test (sym same) ∙ is
    by_test more false is h = more h

abbrev pub behind_signature : List ℕ → Start
behind_signature signature = start.AfterSignature (record { 0 = signature })

-- behind the queued product of a signature stands the next number
pub position-behind : (s : State) (n : ℕ) (row : Row) → SignaturesDiffer s → slice_get s.rows n ≡ Some row → is_some row.place ≡ true
    → (at : ℕ) → open_position s (behind_signature row.product.info.signature) ≡ Some at → at ≡ n + 1
position-behind s n row differ is_row queued_there at position = by_found (queued_with row.product.info.signature (queued s)) refl position
  where
    by_found : (q : Option Queued) → queued_with row.product.info.signature (queued s) ≡ q → option_map (λ (q : Queued). q.number + 1) q ≡ Some at → at ≡ n + 1
    by_found None none e = absurd cc
    by_found (Some q) found e =
        let its = IsRowOf-found (has_signature row.product.info.signature) s q found in
        let passes = found-passes (has_signature row.product.info.signature) (queued s) q found in
        let named : q.product.info.signature ≡ row.product.info.signature = (bytes_eq-Decides q.product.info.signature row.product.info.signature).0 passes in
        let signed : its.row.product.info.signature ≡ row.product.info.signature = ap (λ (p : _). p.info.signature) its.product ∙ named in
        let same : q.number ≡ n = differ q.number n its.row row its.is_row is_row (ap is_some its.place) queued_there signed in
        let is : q.number + 1 ≡ at = same_Some _ _ e in
        omega arith

-- A point of a life that began behind product n, which was queued.
module _ (p : Point) (n : ℕ) (row : Row) (differ : SignaturesDiffer (state_before p)) (is_row : slice_get (state_before p).rows n ≡ Some row)
    (queued_there : is_some row.place ≡ true) (from : p.start ≡ behind_signature row.product.info.signature) where
  position-next : (at : ℕ) → open_position (state_before p) p.start ≡ Some at → at ≡ n + 1
  position-next at e = position-behind (state_before p) n row differ is_row queued_there at (ap (open_position (state_before p)) (sym from) ∙ e)

  -- what is for the reader is above it
  pub due-above : (m : ℕ) → Contains (due p) m → n < m
  due-above m there =
      let is = among-due p m (among-from_Contains (due p) m there) in
      let begun = (and_parts (feeds_meet p.feed (feed_of_row (slice_get (state_at p).rows m))) (begun_at p m) is.1).1 in
      by_begun (or_cases (nat_le (end_of (state_before p)) m) (is_among (numbers (state_before p)) m && is_not_below m (open_position (state_before p) p.start)) begun)
    where
      within : n < length (state_before p).rows
      within = slice_get_within (state_before p).rows n row is_row

      by_position : (at : Option ℕ) → open_position (state_before p) p.start ≡ at → is_not_below m at ≡ true → n < m
      by_position None e h = absurd (false≢true h)
      by_position (Some at) e h = omega (arith, leb-true at m h, position-next at e)

      by_begun : (nat_le (end_of (state_before p)) m ≡ true) ⊎ ((is_among (numbers (state_before p)) m && is_not_below m (open_position (state_before p) p.start)) ≡ true) → n < m
      by_begun (inl later) = omega (arith, leb-true (end_of (state_before p)) m later, within)
      by_begun (inr there) = by_position (open_position (state_before p) p.start) refl
          (and_parts (is_among (numbers (state_before p)) m) (is_not_below m (open_position (state_before p) p.start)) there).1

  -- what is queued above it, and of the cursor's feedtypes, is for the reader
  pub above-due : (at : ℕ) → open_position (state_before p) p.start ≡ Some at → (r : ℕ) → n < r → is_present p r ≡ true
      → feeds_meet p.feed (feed_of_row (slice_get (state_at p).rows r)) ≡ true → is_due p r ≡ true
  above-due at position r later here meets =
      and_from (feeds_meet p.feed (feed_of_row (slice_get (state_at p).rows r))) (begun_at p r) meets (by_end (cases_lt r (length (state_before p).rows)))
    where
      not_below : is_not_below r (open_position (state_before p) p.start) ≡ true
      not_below = ap (is_not_below r) position ∙ le-leb at r (omega (arith, position-next at position))

      was_here : r < length (state_before p).rows → is_queued (state_before p) r ≡ true
      was_here within = elim (cases_Bool (is_queued (state_before p) r)) [
        | inl was ↦ was
        | inr gone ↦ absurd (both_ways (is_present p r) (gone-after r p.arena p.slots p.before (opening p ∷ p.since) (within, gone)).1 here)
      ]

      by_end : (r < length (state_before p).rows) ⊎ (length (state_before p).rows ≤ r) → begun_at p r ≡ true
      by_end (inl within) = or_right (nat_le (end_of (state_before p)) r) (is_among (numbers (state_before p)) r && is_not_below r (open_position (state_before p) p.start))
          (and_from (is_among (numbers (state_before p)) r) (is_not_below r (open_position (state_before p) p.start))
          (numbers-from_present (state_before p) r (was_here within)) not_below)
      by_end (inr behind) = or_left (nat_le (end_of (state_before p)) r) (is_among (numbers (state_before p)) r && is_not_below r (open_position (state_before p) p.start))
          (le-leb (end_of (state_before p)) r behind)

-- Where a step gives the first product that is for the reader, queued and not given, each lower one that is for it and queued was given.
pub given-before : (p : Point) (m r : ℕ) → find (λ i. is_present p i && not (is_among (given p) i)) (due p) ≡ Some m → r < m → is_due p r ≡ true → is_present p r ≡ true
    → IsAmong (given p) r
given-before p m r next less for_it here =
    let test : ℕ → Bool = λ i. is_present p i && not (is_among (given p) i) in
    let found = sym (find-filter test (is_due p) (range_with_len 0 (end_of (state_at p)))) ∙ next in
    let fails = (find-range_before (λ i. is_due p i && test i) 0 (end_of (state_at p)) m found).1 r (omega arith) less in
    by_given (is_among (given p) r) (sym (λ i. for_it i && (here i && not (is_among (given p) r))) ∙ fails)
  where
    by_given : (b : Bool) → not b ≡ false → b ≡ true
    by_given true e = refl
    by_given false e = absurd (false≢true (sym e))
