-- At its opening a reader is tied to its place in the state.
use Rattle.std.proofs.Common.{◌≡◌, ◌∙◌, ℕ, ◌+◌, ◌<◌, ◌≤◌, Bool, true, [], length, find, Option, Some, None, refl, sym, ap, subst, inl, inr, arith, get_or-set_same}
use Rattle.std.specs.Prelude.{◌&&◌, nat_le, nat_lt, is_none, set, slice_get, slice_index_or}
use Rattle.std.specs.List.{position_or_len}
use Rattle.std.specs.Option.{option_map}
use Rattle.std.proofs.lemmas.Bool.{both_ways, and_parts, and_from, or_cases, or_left, or_right, le-leb, leb-true, ltb-true}
use Rattle.std.proofs.lemmas.Option.{cond_some, same_Some, slice_get_within}
use Rattle.ldm_types.specs.Feed.{feeds_meet}
use Rattle.ldm_model.specs.declared.event.Start.{Start}
use Rattle.ldm_model.specs.declared.event.Start.TheVariants as start
use Rattle.ldm_model.specs.declared.event.Reply.TheVariants as reply
use Rattle.ldm_model.specs.State.{State, Queued, end_of, queued, queued_with, has_signature}
use Rattle.ldm_model.specs.Evict.{numbers}
use Rattle.ldm_model.specs.Cursor.{least_empty}
use Rattle.ldm_model.specs.Open.{open_cursor, open_at, open_from, open_position, number_or_end, is_later, new_cursor}
use Rattle.ldm_model.specs.History.{IsAnswered}
use Rattle.ldm_model.specs.Law.{Point, opening, at_entries, state_before, is_among, is_not_below, feed_of_row}
use Rattle.ldm_model.proofs.Held.{present}
use Rattle.ldm_model.proofs.Ascending.{among-none}
use Rattle.ldm_model.proofs.Rows.{present-within, present-from_numbers, numbers-from_present}
use Rattle.ldm_model.proofs.Coming.{IsRowOf-found}
use Rattle.ldm_model.proofs.Reading.{due_in, Reads}
use Rattle.ldm_model.proofs.Points.{state-opened}
use Rattle.ldm_model.proofs.Tied.{begun_at, Tied}
use Rattle.ldm_model.proofs.TiedOwn.{TiedAt}

found-within : (s : State) (test : Queued → Bool) (q : Queued) → find test (queued s) ≡ Some q → q.number < length s.rows
found-within s test q found =
    let there = IsRowOf-found test s q found in
    slice_get_within s.rows q.number there.row there.is_row

number-within : (s : State) (test : Queued → Bool) (q : Option Queued) → find test (queued s) ≡ q → number_or_end s q ≤ length s.rows
number-within s test None found = omega arith
number-within s test (Some q) found = omega (arith, found-within s test q found)

behind-within : (s : State) (test : Queued → Bool) (q : Option Queued) (at : ℕ) → find test (queued s) ≡ q → option_map (λ (q : Queued). q.number + 1) q ≡ Some at → at ≤ length s.rows
behind-within s test None at found e = absurd cc
behind-within s test (Some q) at found e = omega (arith, found-within s test q found, same_Some (q.number + 1) at e)

-- a cursor begins at the end or before it
position-within : (s : State) (from : Start) (at : ℕ) → open_position s from ≡ Some at → at ≤ length s.rows
position-within s start.Oldest at e = omega (arith, same_Some (number_or_end s (find (λ q. true) (queued s))) at e, number-within s (λ q. true) (find (λ q. true) (queued s)) refl)
position-within s start.Next at e = omega (arith, same_Some (end_of s) at e)
position-within s (start.After time) at e = omega (arith, same_Some (number_or_end s (find (is_later time) (queued s))) at e, number-within s (is_later time) (find (is_later time) (queued s)) refl)
position-within s (start.AfterSignature signature) at e = behind-within s (has_signature signature.0) (queued_with signature.0 (queued s)) at refl e

module _ (p : Point) (at : ℕ) (from : open_position (state_before p) p.start ≡ Some at) where
  -- a row that is present at the opening is for the reader exactly where it is not below the position
  begun-from : (n : ℕ) → at ≤ n → present (state_before p).rows n ≡ true → begun_at p n ≡ true
  begun-from n le here =
      or_right (nat_le (end_of (state_before p)) n) (is_among (numbers (state_before p)) n && is_not_below n (open_position (state_before p) p.start))
      (and_from (is_among (numbers (state_before p)) n) (is_not_below n (open_position (state_before p) p.start)) (numbers-from_present (state_before p) n here)
      (ap (is_not_below n) from ∙ le-leb at n le))

  begun-parts : (n : ℕ) → n < length (state_before p).rows → begun_at p n ≡ true → (present (state_before p).rows n ≡ true) × (at ≤ n)
  begun-parts n lt h = elim (or_cases (nat_le (end_of (state_before p)) n) (is_among (numbers (state_before p)) n && is_not_below n (open_position (state_before p) p.start)) h) [
    | inl e ↦ let past = leb-true (end_of (state_before p)) n e in absurd (omega arith)
    | inr e ↦
        let parts = and_parts (is_among (numbers (state_before p)) n) (is_not_below n (open_position (state_before p) p.start)) e in
        (present-from_numbers (state_before p) n parts.0, leb-true at n (sym (ap (is_not_below n) from) ∙ parts.1))
  ]

  due-parts : (n : ℕ) → n < length (state_before p).rows → due_in p.feed (begun_at p) (state_before p).rows n ≡ true → (present (state_before p).rows n ≡ true) × (at ≤ n)
  due-parts n lt due = begun-parts n lt (and_parts (feeds_meet p.feed (feed_of_row (slice_get (state_before p).rows n))) (begun_at p n) due).1

  Reads-opened : Reads p.feed (begun_at p) (state_before p).rows (new_cursor p.owner p.feed at) [] [] None 0
  Reads-opened = record {
    same_feed = refl;
    same_given = refl;
    same_held = refl;
    stays = tt;
    within = position-within (state_before p) p.start at from;
    later = λ n le. or_left (nat_le (end_of (state_before p)) n) (is_among (numbers (state_before p)) n && is_not_below n (open_position (state_before p) p.start))
        (le-leb (end_of (state_before p)) n le);
    begun_from = begun-from;
    passed = λ n lt due here. let parts = due-parts n (present-within (state_before p).rows n here) due in absurd (omega (arith, parts.1));
    rising = omega arith;
    given_due = λ n h. absurd (among-none n h);
    noted = λ n h. absurd (among-none n h);
    all_noted = λ n lost. absurd (both_ways (present (state_before p).rows n) lost.gone (due-parts n lost.within lost.due).0);
    apart = tt;
    told_noted = λ n h. h;
    noted_told = λ n h. h;
    told_rising = omega arith;
    same_count = refl;
  }

module _ (p : Point) where
  opened-from : (k : ℕ) → k < length (state_before p).cursors → (at : Option ℕ) → open_position (state_before p) p.start ≡ at
      → reply.Opened p.k ≡ (open_from (state_before p) p.owner p.feed k at).reply → Tied (at_entries p []) (open_from (state_before p) p.owner p.feed k at).state [] [] None 0
  opened-from k inside None from e = absurd cc
  opened-from k inside (Some at) from e =
      let same : p.k ≡ k = cc in
      record {
        cursor = new_cursor p.owner p.feed at;
        is_at = ap (λ (i : ℕ). slice_index_or (set (state_before p).cursors k (Some (new_cursor p.owner p.feed at))) i None) same
            ∙ get_or-set_same (state_before p).cursors k (Some (new_cursor p.owner p.feed at)) None inside;
        owner = refl;
        reads = Reads-opened p at from;
      }

  opened-at : (k : Option ℕ) → least_empty (state_before p).cursors ≡ k → reply.Opened p.k ≡ (open_at (state_before p) p.owner p.feed p.start k).reply
      → Tied (at_entries p []) (open_at (state_before p) p.owner p.feed p.start k).state [] [] None 0
  opened-at None place e = absurd cc
  opened-at (Some k) place e =
      let found = cond_some (nat_lt (position_or_len is_none (state_before p).cursors) (length (state_before p).cursors)) (position_or_len is_none (state_before p).cursors) k place in
      opened-from k (subst (λ (i : ℕ). i < length (state_before p).cursors) found.1 (ltb-true (position_or_len is_none (state_before p).cursors) (length (state_before p).cursors) found.0))
      (open_position (state_before p) p.start) refl e

  opened : reply.Opened p.k ≡ (open_cursor (state_before p) p.owner p.feed p.start).reply → Tied (at_entries p []) (open_cursor (state_before p) p.owner p.feed p.start).state [] [] None 0
  unfolding open_cursor
  opened e = opened-at (least_empty (state_before p).cursors) refl e

  pub TiedAt-opened : IsAnswered (state_before p) (opening p) → TiedAt (at_entries p [])
  TiedAt-opened answered = subst (λ (s : State). Tied (at_entries p []) s [] [] None 0) (sym (state-opened p)) (opened answered.reply)
