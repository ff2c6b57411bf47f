-- An admission keeps the tie of a cursor to its reader, and so does each move of the cursor.
use Rattle.std.proofs.Common.{◌≡◌, ◌∙◌, ℕ, ◌+◌, ◌<◌, ◌≤◌, Bool, true, false, List, [], ◌∷◌, ◌++◌, length, Option, Some, None, refl, sym, ap, subst, inl, inr, arith, append-nil, length-append}
use Rattle.std.specs.Prelude.{◌&&◌, nat_le, is_some, slice_get}
use Rattle.std.proofs.lemmas.Bool.{both_ways, and_parts, and_from, cases_eq, cases_lt, le-leb, leb-true, false_from_ne_true}
use Rattle.ldm_types.specs.Feed.{feeds_meet}
use Rattle.ldm_model.specs.State.{Row, Cursor, place_of_row}
use Rattle.ldm_model.specs.Step.{after_tell, after_give}
use Rattle.ldm_model.specs.Release.{after_release}
use Rattle.ldm_model.specs.Law.{Hold, is_among, feed_of_row}
use Rattle.ldm_model.proofs.Held.{present}
use Rattle.ldm_model.proofs.Ascending.{IsAmong, among-left, among-push, among-pushed, Rises, Rises-among, Rises-higher, Rises-push}
use Rattle.ldm_model.proofs.Apart.{AreApart}
use Rattle.ldm_model.proofs.Rows.{present-within, slice_get-front, slice_get-last}
use Rattle.ldm_model.proofs.Coming.{comes}
use Rattle.ldm_model.proofs.Reading.{due_in, IsLost, Stays-append, hold_now, Reads}

module _ (feed : ℕ) (begun : ℕ → Bool) (rows : List Row) (c : Cursor) (given told : List ℕ) (hold : Option Hold) (counted : ℕ) (r : Reads feed begun rows c given told hold counted) where
  -- a row is admitted
  module _ (row : Row) (placed : is_some row.place ≡ true) where
    due-front : (n : ℕ) → n < length rows → due_in feed begun (rows ++ row ∷ []) n ≡ due_in feed begun rows n
    due-front n lt = ap (λ (o : Option Row). feeds_meet feed (feed_of_row o) && begun n) (slice_get-front rows (row ∷ []) n lt)

    present-front : (n : ℕ) → n < length rows → present (rows ++ row ∷ []) n ≡ present rows n
    present-front n lt = ap (λ (o : Option Row). is_some (place_of_row o)) (slice_get-front rows (row ∷ []) n lt)

    present-new : (n : ℕ) → n ≡ length rows → present (rows ++ row ∷ []) n ≡ true
    present-new n e = ap (λ (o : Option Row). is_some (place_of_row o)) (slice_get-last rows row n e) ∙ placed

    length-more : length (rows ++ row ∷ []) ≡ length rows + 1
    length-more = length-append rows (row ∷ [])

    IsLost-front : (n : ℕ) → IsLost feed begun rows given n → IsLost feed begun (rows ++ row ∷ []) given n
    IsLost-front n lost = record {
      within = omega (arith, length-more, lost.within);
      due = due-front n lost.within ∙ lost.due;
      gone = present-front n lost.within ∙ lost.gone;
      not_given = lost.not_given;
    }

    IsLost-back : (n : ℕ) → IsLost feed begun (rows ++ row ∷ []) given n → IsLost feed begun rows given n
    IsLost-back n lost = elim (cases_lt n (length rows)) [
      | inl lt ↦ record {
        within = lt;
        due = sym (due-front n lt) ∙ lost.due;
        gone = sym (present-front n lt) ∙ lost.gone;
        not_given = lost.not_given;
      }
      | inr le ↦ absurd (both_ways (present (rows ++ row ∷ []) n) lost.gone (present-new n (omega (arith, length-more, lost.within))))
    ]

    pub Reads-admitted : Reads feed begun (rows ++ row ∷ []) c given told hold counted
    Reads-admitted = record {
      same_feed = r.same_feed;
      same_given = r.same_given;
      same_held = r.same_held;
      stays = Stays-append rows (row ∷ []) hold r.stays;
      within = omega (arith, length-more, r.within);
      later = λ n le. r.later n (omega (arith, length-more));
      begun_from = λ n le h. elim (cases_lt n (length rows)) [
        | inl lt ↦ r.begun_from n le (sym (present-front n lt) ∙ h)
        | inr past ↦ r.later n past
      ];
      passed = λ n lt due h. let inside : n < length rows = omega (arith, r.within) in r.passed n lt (sym (due-front n inside) ∙ due) (sym (present-front n inside) ∙ h);
      rising = r.rising;
      given_due = λ n h. let bounds = Rises-among 0 c.position n given r.rising h in due-front n (omega (arith, r.within)) ∙ r.given_due n h;
      noted = λ n h. IsLost-front n (r.noted n h);
      all_noted = λ n lost. r.all_noted n (IsLost-back n lost);
      apart = r.apart;
      told_noted = r.told_noted;
      noted_told = r.noted_told;
      told_rising = Rises-higher 0 (length rows) (length (rows ++ row ∷ [])) told (omega (arith, length-more)) r.told_rising;
      same_count = r.same_count;
    }

  -- a row that does not come, but is for the reader, ahead, and present
  pub no-other : (n : ℕ) → c.position ≤ n → due_in feed begun rows n ≡ true → present rows n ≡ true → comes c rows n ≡ true
  no-other n le due here =
      let meets = and_parts (feeds_meet feed (feed_of_row (slice_get rows n))) (begun n) due in
      let meets' : feeds_meet c.feed (feed_of_row (slice_get rows n)) ≡ true = ap (λ (f : ℕ). feeds_meet f (feed_of_row (slice_get rows n))) r.same_feed ∙ meets.0 in
      and_from (present rows n) (nat_le c.position n && feeds_meet c.feed (feed_of_row (slice_get rows n))) here
      (and_from (nat_le c.position n) (feeds_meet c.feed (feed_of_row (slice_get rows n))) (le-leb c.position n le) meets')

  -- a row that comes is present, ahead, and for the reader
  pub comes-parts : (n : ℕ) → comes c rows n ≡ true → (present rows n ≡ true) × (c.position ≤ n) × (due_in feed begun rows n ≡ true)
  comes-parts n h =
      let parts = and_parts (present rows n) (nat_le c.position n && feeds_meet c.feed (feed_of_row (slice_get rows n))) h in
      let more = and_parts (nat_le c.position n) (feeds_meet c.feed (feed_of_row (slice_get rows n))) parts.1 in
      let le : c.position ≤ n = leb-true c.position n more.0 in
      let meets : feeds_meet feed (feed_of_row (slice_get rows n)) ≡ true = ap (λ (f : ℕ). feeds_meet f (feed_of_row (slice_get rows n))) (sym r.same_feed) ∙ more.1 in
      (parts.0, le, and_from (feeds_meet feed (feed_of_row (slice_get rows n))) (begun n) meets (r.begun_from n le parts.0))

  -- where no row below a number comes, those for the reader that are present were given
  given-before : (n : ℕ) → ((m : ℕ) → m < n → comes c rows m ≡ false) → (m : ℕ) → m < n → due_in feed begun rows m ≡ true → present rows m ≡ true → IsAmong given m
  given-before n none m lt due here = elim (cases_lt m c.position) [
    | inl behind ↦ r.passed m behind due here
    | inr ahead ↦ absurd (both_ways (comes c rows m) (none m lt) (no-other m ahead due here))
  ]

  -- the first row that comes is given
  module _ (n : ℕ) (first : comes c rows n ≡ true) (none : (m : ℕ) → m < n → comes c rows m ≡ false) where
    IsLost-given : (m : ℕ) → IsLost feed begun rows given m → IsLost feed begun rows (given ++ n ∷ []) m
    IsLost-given m lost = record {
      within = lost.within;
      due = lost.due;
      gone = lost.gone;
      not_given = false_from_ne_true (is_among (given ++ n ∷ []) m) (λ h. elim (among-push given n m h) [
        | inl x ↦ both_ways (is_among given m) lost.not_given x
        | inr x ↦ both_ways (present rows m) lost.gone (subst (λ (i : ℕ). present rows i ≡ true) x (comes-parts n first).0)
      ]);
    }

    IsLost-not_given : (m : ℕ) → IsLost feed begun rows (given ++ n ∷ []) m → IsLost feed begun rows given m
    IsLost-not_given m lost = record {
      within = lost.within;
      due = lost.due;
      gone = lost.gone;
      not_given = false_from_ne_true (is_among given m) (λ h. both_ways (is_among (given ++ n ∷ []) m) lost.not_given (among-left given (n ∷ []) m h));
    }

    pub Reads-given : Reads feed begun rows (after_give n c) (given ++ n ∷ []) told (Some (hold_now rows n)) counted
    Reads-given = record {
      same_feed = r.same_feed;
      same_given = ap (λ (ns : List ℕ). ns ++ n ∷ []) r.same_given;
      same_held = refl;
      stays = ((comes-parts n first).0, refl);
      within = omega (arith, present-within rows n (comes-parts n first).0);
      later = r.later;
      begun_from = λ m le h. r.begun_from m (omega (arith, (comes-parts n first).1)) h;
      passed = λ m lt due here. elim (cases_eq n m) [
        | inl e ↦ subst (IsAmong (given ++ n ∷ [])) e (among-pushed given n)
        | inr e ↦ among-left given (n ∷ []) m (given-before n none m (grind arith) due here)
      ];
      rising = Rises-push 0 c.position n given (comes-parts n first).1 r.rising;
      given_due = λ m h. elim (among-push given n m h) [
        | inl x ↦ r.given_due m x
        | inr x ↦ subst (λ (i : ℕ). due_in feed begun rows i ≡ true) x (comes-parts n first).2
      ];
      noted = λ m h. IsLost-given m (r.noted m h);
      all_noted = λ m lost. r.all_noted m (IsLost-not_given m lost);
      apart = r.apart;
      told_noted = r.told_noted;
      noted_told = r.noted_told;
      told_rising = r.told_rising;
      same_count = r.same_count;
    }

  -- none comes, and the cursor goes to the end
  pub Reads-end : ((m : ℕ) → m < length rows → comes c rows m ≡ false) → Reads feed begun rows (record c { position = length rows }) given told hold counted
  Reads-end none = record {
    same_feed = r.same_feed;
    same_given = r.same_given;
    same_held = r.same_held;
    stays = r.stays;
    within = omega arith;
    later = r.later;
    begun_from = λ m le h. let inside = present-within rows m h in absurd (omega arith);
    passed = λ m lt due here. given-before (length rows) none m lt due here;
    rising = Rises-higher 0 c.position (length rows) given r.within r.rising;
    given_due = r.given_due;
    noted = r.noted;
    all_noted = r.all_noted;
    apart = r.apart;
    told_noted = r.told_noted;
    noted_told = r.noted_told;
    told_rising = r.told_rising;
    same_count = r.same_count;
  }

  -- all losses are told
  pub Reads-told : (lost : List ℕ) → Rises 0 lost (length rows) → ((n : ℕ) → IsAmong lost n → IsLost feed begun rows given n) → ((n : ℕ) → IsLost feed begun rows given n → IsAmong lost n)
      → Reads feed begun rows (after_tell c) given lost hold (counted + length c.untold)
  Reads-told lost rises from to = record {
    same_feed = r.same_feed;
    same_given = r.same_given;
    same_held = r.same_held;
    stays = r.stays;
    within = r.within;
    later = r.later;
    begun_from = r.begun_from;
    passed = r.passed;
    rising = r.rising;
    given_due = r.given_due;
    noted = λ n h. r.noted n (subst (λ (ns : List ℕ). IsAmong ns n) (append-nil (c.told ++ c.untold)) h);
    all_noted = λ n lost. subst (λ (ns : List ℕ). IsAmong ns n) (sym (append-nil (c.told ++ c.untold))) (r.all_noted n lost);
    apart = subst AreApart (sym (append-nil (c.told ++ c.untold))) r.apart;
    told_noted = λ n h. r.all_noted n (from n h);
    noted_told = λ n h. to n (r.noted n h);
    told_rising = rises;
    same_count = omega (arith, r.same_count, length-append c.told c.untold);
  }

  -- the hold ends
  pub Reads-released : Reads feed begun rows (after_release c) given told None counted
  Reads-released = record {
    same_feed = r.same_feed;
    same_given = r.same_given;
    same_held = refl;
    stays = tt;
    within = r.within;
    later = r.later;
    begun_from = r.begun_from;
    passed = r.passed;
    rising = r.rising;
    given_due = r.given_due;
    noted = r.noted;
    all_noted = r.all_noted;
    apart = r.apart;
    told_noted = r.told_noted;
    noted_told = r.noted_told;
    told_rising = r.told_rising;
    same_count = r.same_count;
  }
