-- What is true of a reader at every point of its life, from its place in the state.
use Rattle.std.proofs.Common.{◌≡◌, ◌∙◌, ℕ, ◌+◌, ◌<◌, ◌≤◌, Bool, true, false, not, List, [], ◌++◌, length, filter, All, Contains, find, count_by, refl, sym, ap, subst, inl, inr, arith}
use Rattle.std.proofs.Common.{append-nil, length-append}
use Rattle.std.specs.Prelude.{◌⊎◌, ◌&&◌}
use Rattle.std.specs.List.{range_with_len}
use Rattle.std.proofs.lemmas.Bool.{false≢true, both_ways, and_parts, and_from, cases_Bool, cases_lt, not-true, not_from_false, false_from_ne_true}
use Rattle.ldm_model.specs.State.{queued}
use Rattle.ldm_model.specs.Cursor.{awaits}
use Rattle.ldm_model.specs.Law.{Point, state_at, is_among, due, given, lost, told, untold, left, count_told, hold_of, IsServed, TellsOnce}
use Rattle.ldm_model.proofs.Held.{present}
use Rattle.ldm_model.proofs.Ascending.{IsAmong, among-append, among-left, among-right, among-filter, filter-among, among-range, Contains-from_among, among-from_Contains, All-from_among}
use Rattle.ldm_model.proofs.Ascending.{Rises, Rises-among, Rises-same, Rises-filter, Rises-range, IsStrictlyIncreasing-from_rises}
use Rattle.ldm_model.proofs.Apart.{AreApart-from_rises, AreApart-left, AreApart-between, length-same}
use Rattle.ldm_model.proofs.Rows.{present-within}
use Rattle.ldm_model.proofs.Coming.{comes, count-comes, find-comes, find-agree, find-filter, number_of}
use Rattle.ldm_model.proofs.Reading.{due_in}
use Rattle.ldm_model.proofs.ReadingMoves.{no-other, comes-parts}
use Rattle.ldm_model.proofs.Losses.{IsDue, among-due, due-among, Rises-due, among-lost, lost-among, Rises-lost}
use Rattle.ldm_model.proofs.Tied.{begun_at}
use Rattle.ldm_model.proofs.TiedOwn.{TiedAt}

same-truth : (a b : Bool) → (a ≡ true → b ≡ true) → (b ≡ true → a ≡ true) → a ≡ b
same-truth true b to from = sym (to refl)
same-truth false true to from = absurd (false≢true (from refl))
same-truth false false to from = refl

module _ (p : Point) (t : TiedAt p) where
  -- a row for the reader that is not present was given or lost
  gone-or-given : (n : ℕ) → IsDue p n → present (state_at p).rows n ≡ false → IsAmong (given p) n ⊎ IsAmong (lost p) n
  gone-or-given n is_due gone = elim (cases_Bool (is_among (given p) n)) [
    | inl e ↦ inl e
    | inr e ↦ inr (lost-among p n (record { within = is_due.0; due = is_due.1; gone = gone; not_given = e }))
  ]

  -- and one that is present was given, or comes
  given-or-comes : (n : ℕ) → IsDue p n → present (state_at p).rows n ≡ true → IsAmong (given p) n ⊎ ((t.cursor.position ≤ n) × (comes t.cursor (state_at p).rows n ≡ true))
  given-or-comes n is_due here = elim (cases_lt n t.cursor.position) [
    | inl lt ↦ inl (t.reads.passed n lt is_due.1 here)
    | inr le ↦ inr (le, no-other p.feed (begun_at p) (state_at p).rows t.cursor (given p) (told p) (hold_of p) (count_told p) t.reads n le is_due.1 here)
  ]

  contained : (n : ℕ) → IsAmong (given p) n ⊎ IsAmong (lost p) n → Contains (given p) n ⊎ Contains (lost p) n
  contained n h = elim h [ inl x ↦ inl (Contains-from_among (given p) n x) | inr x ↦ inr (Contains-from_among (lost p) n x) ]

  passes-over-none : (n m : ℕ) → Contains (given p) n → Contains (due p) m → m < n → Contains (given p) m ⊎ Contains (lost p) m
  passes-over-none n m there is_due lt =
      let bounds = Rises-among 0 t.cursor.position n (given p) t.reads.rising (among-from_Contains (given p) n there) in
      let due_m = among-due p m (among-from_Contains (due p) m is_due) in
      contained m (elim (cases_Bool (present (state_at p).rows m)) [
        | inl here ↦ inl (t.reads.passed m (omega arith) due_m.1 here)
        | inr gone ↦ gone-or-given m due_m gone
      ])

  gives-queued : (n m : ℕ) → Contains (given p) n → Contains (due p) m → m < n → present (state_at p).rows m ≡ true → Contains (given p) m
  gives-queued n m there is_due lt here =
      let bounds = Rises-among 0 t.cursor.position n (given p) t.reads.rising (among-from_Contains (given p) n there) in
      let due_m = among-due p m (among-from_Contains (due p) m is_due) in
      Contains-from_among (given p) m (t.reads.passed m (omega arith) due_m.1 here)

  tells-once : TellsOnce p
  tells-once = record {
    counted = t.reads.same_count ∙ length-same t.cursor.told (told p) (AreApart-left t.cursor.told t.cursor.untold t.reads.apart)
        (AreApart-from_rises 0 (length (state_at p).rows) (told p) t.reads.told_rising) t.reads.noted_told t.reads.told_noted;
    different = IsStrictlyIncreasing-from_rises 0 (length (state_at p).rows) (told p) t.reads.told_rising;
    only_lost = All-from_among (Contains (lost p)) (told p)
        (λ n h. Contains-from_among (lost p) n (lost-among p n (t.reads.noted n (among-left t.cursor.told t.cursor.untold n (t.reads.told_noted n h)))));
  }

  pub served : IsServed p
  served = record {
    in_order = IsStrictlyIncreasing-from_rises 0 t.cursor.position (given p) t.reads.rising;
    only_due = All-from_among (Contains (due p)) (given p) (λ n h.
        let bounds = Rises-among 0 t.cursor.position n (given p) t.reads.rising h in
        Contains-from_among (due p) n (due-among p n (omega (arith, t.reads.within), t.reads.given_due n h)));
    held_stays = t.reads.stays;
    passes_over_none = passes-over-none;
    gives_queued = gives-queued;
    tells_once = tells-once;
  }

  -- where the cursor has no untold loss, all losses were told
  pub all-told : t.cursor.untold ≡ [] → lost p ≡ told p
  all-told e = Rises-same 0 (length (state_at p).rows) 0 (length (state_at p).rows) (lost p) (told p) (Rises-lost p) t.reads.told_rising
      (λ n h. t.reads.noted_told n (subst (λ (ns : List ℕ). IsAmong ns n) ((λ i. t.cursor.told ++ e i) ∙ append-nil t.cursor.told) (t.reads.all_noted n (among-lost p n h))))
      (λ n h. lost-among p n (t.reads.noted n (among-left t.cursor.told t.cursor.untold n (t.reads.told_noted n h))))

  -- the cursor's untold losses are the reader's
  pub among-untold : (n : ℕ) → IsAmong (untold p) n → IsAmong t.cursor.untold n
  among-untold n h =
      let parts = among-filter (λ m. not (is_among (told p) m)) (lost p) n h in
      elim (among-append t.cursor.told t.cursor.untold n (t.reads.all_noted n (among-lost p n parts.0))) [
        | inl x ↦ absurd (both_ways (is_among (told p) n) (not-true (is_among (told p) n) parts.1) (t.reads.noted_told n x))
        | inr x ↦ x
      ]

  pub untold-among : (n : ℕ) → IsAmong t.cursor.untold n → IsAmong (untold p) n
  untold-among n h = filter-among (λ m. not (is_among (told p) m)) (lost p) n
      (lost-among p n (t.reads.noted n (among-right t.cursor.told t.cursor.untold n h)))
      (not_from_false (is_among (told p) n) (false_from_ne_true (is_among (told p) n) (λ x. AreApart-between t.cursor.told t.cursor.untold n t.reads.apart (t.reads.told_noted n x) h)))

  pub Rises-untold : Rises 0 (untold p) (length (state_at p).rows)
  Rises-untold = Rises-filter (λ m. not (is_among (told p) m)) 0 (length (state_at p).rows) (lost p) (Rises-lost p)

  -- a row that comes is for the reader, present, and was not given
  comes-due : (n : ℕ) → comes t.cursor (state_at p).rows n ≡ true → IsDue p n × (present (state_at p).rows n ≡ true) × (is_among (given p) n ≡ false)
  comes-due n h =
      let parts = comes-parts p.feed (begun_at p) (state_at p).rows t.cursor (given p) (told p) (hold_of p) (count_told p) t.reads n h in (
        (present-within (state_at p).rows n parts.0, parts.2),
        parts.0,
        false_from_ne_true (is_among (given p) n)
            (λ x. let bounds = Rises-among 0 t.cursor.position n (given p) t.reads.rising x in absurd (omega (arith, parts.1))),
      )

  -- the first row that is left is the first that comes
  same-test : (n : ℕ) → n < length (state_at p).rows
      → (due_in p.feed (begun_at p) (state_at p).rows n && (present (state_at p).rows n && not (is_among (given p) n))) ≡ comes t.cursor (state_at p).rows n
  same-test n lt = same-truth (due_in p.feed (begun_at p) (state_at p).rows n && (present (state_at p).rows n && not (is_among (given p) n))) (comes t.cursor (state_at p).rows n)
      (λ h.
      let parts = and_parts (due_in p.feed (begun_at p) (state_at p).rows n) (present (state_at p).rows n && not (is_among (given p) n)) h in
      let tests = and_parts (present (state_at p).rows n) (not (is_among (given p) n)) parts.1 in
      elim (given-or-comes n (lt, parts.0) tests.0) [
        | inl x ↦ absurd (both_ways (is_among (given p) n) (not-true (is_among (given p) n) tests.1) x)
        | inr x ↦ x.1
      ])
      (λ h.
      let parts = comes-due n h in
      and_from (due_in p.feed (begun_at p) (state_at p).rows n) (present (state_at p).rows n && not (is_among (given p) n)) parts.0.1
      (and_from (present (state_at p).rows n) (not (is_among (given p) n)) parts.1 (not_from_false (is_among (given p) n) parts.2)))

  pub find-left : find (λ m. present (state_at p).rows m && not (is_among (given p) m)) (due p) ≡ number_of (find (awaits t.cursor) (queued (state_at p)))
  find-left =
      find-filter (λ m. present (state_at p).rows m && not (is_among (given p) m)) (due_in p.feed (begun_at p) (state_at p).rows) (range_with_len 0 (length (state_at p).rows))
      ∙ find-agree (λ m. due_in p.feed (begun_at p) (state_at p).rows m && (present (state_at p).rows m && not (is_among (given p) m))) (comes t.cursor (state_at p).rows) 0
      (length (state_at p).rows) (λ m lt. same-test m (omega arith))
      ∙ sym (find-comes t.cursor (state_at p))

  -- where none comes, every row for the reader was given or lost
  pub none-left : ((n : ℕ) → n < length (state_at p).rows → comes t.cursor (state_at p).rows n ≡ false) → All (λ n. Contains (given p) n ⊎ Contains (lost p) n) (due p)
  none-left none = All-from_among (λ n. Contains (given p) n ⊎ Contains (lost p) n) (due p) (λ n h.
      let is_due = among-due p n h in
      contained n (elim (cases_Bool (present (state_at p).rows n)) [
        | inl here ↦ elim (given-or-comes n is_due here) [
          | inl x ↦ inl x
          | inr x ↦ absurd (both_ways (comes t.cursor (state_at p).rows n) (none n is_due.0) x.1)
        ]
        | inr gone ↦ gone-or-given n is_due gone
      ]))

  -- what a tally counts
  pub length-lost : length t.cursor.told + length t.cursor.untold ≡ length (lost p)
  length-lost = sym (length-append t.cursor.told t.cursor.untold)
      ∙ length-same (t.cursor.told ++ t.cursor.untold) (lost p) t.reads.apart (AreApart-from_rises 0 (length (state_at p).rows) (lost p) (Rises-lost p))
      (λ n h. lost-among p n (t.reads.noted n h)) (λ n h. t.reads.all_noted n (among-lost p n h))

  abbrev is_left : ℕ → Bool
  is_left n = not (is_among (given p) n) && not (is_among (lost p) n)

  same-left : filter (comes t.cursor (state_at p).rows) (range_with_len 0 (length (state_at p).rows)) ≡ left p
  same-left = Rises-same 0 (length (state_at p).rows) 0 (length (state_at p).rows) (filter (comes t.cursor (state_at p).rows) (range_with_len 0 (length (state_at p).rows))) (left p)
      (Rises-filter (comes t.cursor (state_at p).rows) 0 (length (state_at p).rows) (range_with_len 0 (length (state_at p).rows))
      (Rises-range 0 (length (state_at p).rows) (length (state_at p).rows) (omega arith)))
      (Rises-filter is_left 0 (length (state_at p).rows) (due p) (Rises-due p))
      (λ n h.
      let parts = comes-due n (among-filter (comes t.cursor (state_at p).rows) (range_with_len 0 (length (state_at p).rows)) n h).1 in
      filter-among is_left (due p) n (due-among p n parts.0) (and_from (not (is_among (given p) n)) (not (is_among (lost p) n)) (not_from_false (is_among (given p) n) parts.2)
      (not_from_false (is_among (lost p) n) (false_from_ne_true (is_among (lost p) n) (λ x. both_ways (present (state_at p).rows n) (among-lost p n x).gone parts.1)))))
      (λ n h.
      let parts = among-filter is_left (due p) n h in
      let is_due = among-due p n parts.0 in
      let tests = and_parts (not (is_among (given p) n)) (not (is_among (lost p) n)) parts.1 in
      filter-among (comes t.cursor (state_at p).rows) (range_with_len 0 (length (state_at p).rows)) n (among-range 0 (length (state_at p).rows) n (omega arith) (omega (arith, is_due.0)))
      (elim (cases_Bool (present (state_at p).rows n)) [
        | inl here ↦ elim (given-or-comes n is_due here) [
          | inl x ↦ absurd (both_ways (is_among (given p) n) (not-true (is_among (given p) n) tests.0) x)
          | inr x ↦ x.1
        ]
        | inr gone ↦ elim (gone-or-given n is_due gone) [
          | inl x ↦ absurd (both_ways (is_among (given p) n) (not-true (is_among (given p) n) tests.0) x)
          | inr x ↦ absurd (both_ways (is_among (lost p) n) (not-true (is_among (lost p) n) tests.1) x)
        ]
      ]))

  pub length-left : count_by (awaits t.cursor) (queued (state_at p)) ≡ length (left p)
  length-left = count-comes t.cursor (state_at p) ∙ ap (λ (ns : List ℕ). length ns) same-left
