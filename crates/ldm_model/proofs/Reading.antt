-- What ties a cursor of the state to what its reader was given, lost, told, and holds.
use Rattle.std.proofs.Common.{◌≡◌, ◌∙◌, ℕ, ◌<◌, ◌≤◌, Bool, true, false, List, [], ◌∷◌, ◌++◌, length, Option, Some, None, refl, sym, ap, subst, inl, inr, arith, append_assoc}
use Rattle.std.specs.Prelude.{◌⊎◌, ◌&&◌, nat_le, is_some, slice_get, IfSome}
use Rattle.std.proofs.lemmas.Bool.{false≢true, both_ways, and_parts, and_from, cases_eq, cases_lt, leb-true, le-leb, cases_Bool, false_from_ne_true}
use Rattle.ldm_types.specs.Feed.{feeds_meet}
use Rattle.ldm_model.specs.State.{Row, Cursor, place_of_row}
use Rattle.ldm_model.specs.Evict.{without_place}
use Rattle.ldm_model.specs.Law.{Hold, held_number, is_among, feed_of_row}
use Rattle.ldm_model.proofs.Held.{present}
use Rattle.ldm_model.proofs.Ascending.{IsAmong, among-left, among-push, among-pushed, Rises, Rises-among, Rises-higher}
use Rattle.ldm_model.proofs.Apart.{AreApart, AreApart-push}
use Rattle.ldm_model.proofs.Rows.{present-within, slice_get-front, slice_get-without_other, feed-without_place, absent-without_place, length-without_place}

-- whether the row of that number is for a reader of these feedtypes, where a test says which numbers are
abbrev pub due_in : ℕ → (ℕ → Bool) → List Row → ℕ → Bool
due_in feed begun rows n = feeds_meet feed (feed_of_row (slice_get rows n)) && begun n

-- a row for the reader was evicted, and the reader was not given it
pub record IsLost (feed : ℕ) (begun : ℕ → Bool) (rows : List Row) (given : List ℕ) (n : ℕ) : Type 0 where
  pub within : n < length rows
  pub due : due_in feed begun rows n ≡ true
  pub gone : present rows n ≡ false
  pub not_given : is_among given n ≡ false

-- the held row is present, where it lay when it was given
abbrev pub Stays : List Row → Option Hold → Type 0
Stays rows hold = IfSome hold (λ (h : Hold). (is_some h.place ≡ true) × (place_of_row (slice_get rows h.number) ≡ h.place))

-- a hold that begins now
abbrev pub hold_now : List Row → ℕ → Hold
hold_now rows n = record { number = n; place = place_of_row (slice_get rows n) }

pub record Reads (feed : ℕ) (begun : ℕ → Bool) (rows : List Row) (c : Cursor) (given told : List ℕ) (hold : Option Hold) (counted : ℕ) : Type 0 where
  pub same_feed : c.feed ≡ feed
  pub same_given : c.given ≡ given
  pub same_held : c.held ≡ held_number hold
  pub stays : Stays rows hold
  pub within : c.position ≤ length rows
  -- all rows that are admitted from now on are for the reader, and so are the present ones that are still to come
  pub later : (n : ℕ) → length rows ≤ n → begun n ≡ true
  pub begun_from : (n : ℕ) → c.position ≤ n → present rows n ≡ true → begun n ≡ true
  -- a row for the reader that is behind the cursor and is present was given
  pub passed : (n : ℕ) → n < c.position → due_in feed begun rows n ≡ true → present rows n ≡ true → IsAmong given n
  pub rising : Rises 0 given c.position
  pub given_due : (n : ℕ) → IsAmong given n → due_in feed begun rows n ≡ true
  -- the cursor's losses are the reader's, each once
  pub noted : (n : ℕ) → IsAmong (c.told ++ c.untold) n → IsLost feed begun rows given n
  pub all_noted : (n : ℕ) → IsLost feed begun rows given n → IsAmong (c.told ++ c.untold) n
  pub apart : AreApart (c.told ++ c.untold)
  pub told_noted : (n : ℕ) → IsAmong told n → IsAmong c.told n
  pub noted_told : (n : ℕ) → IsAmong c.told n → IsAmong told n
  pub told_rising : Rises 0 told (length rows)
  pub same_count : counted ≡ length c.told

present-cases : (rows : List Row) (n : ℕ) → (present rows n ≡ true) ⊎ (present rows n ≡ false)
present-cases rows n = cases_Bool (present rows n)

Stays-without : (rows : List Row) (m : ℕ) (hold : Option Hold) → ((n : ℕ) → held_number hold ≡ Some n → m ≡ n → ⊥) → Stays rows hold → Stays (without_place rows m) hold
Stays-without rows m None free h = tt
Stays-without rows m (Some hold) free h = (h.0, ap place_of_row (slice_get-without_other rows m hold.number (free hold.number refl)) ∙ h.1)

pub Stays-append : (rows more : List Row) (hold : Option Hold) → Stays rows hold → Stays (rows ++ more) hold
Stays-append rows more None h = tt
Stays-append rows more (Some hold) h = (h.0, ap place_of_row (slice_get-front rows more hold.number (present-within rows hold.number (ap is_some h.1 ∙ h.0))) ∙ h.1)

module _ (feed : ℕ) (begun : ℕ → Bool) (rows : List Row) (c : Cursor) (given told : List ℕ) (hold : Option Hold) (counted : ℕ) (r : Reads feed begun rows c given told hold counted) where
  -- what an eviction leaves
  module _ (m : ℕ) (row : Row) (at : slice_get rows m ≡ Some row) (here : present rows m ≡ true) (free : (n : ℕ) → held_number hold ≡ Some n → m ≡ n → ⊥) where
    due-without : (n : ℕ) → due_in feed begun (without_place rows m) n ≡ due_in feed begun rows n
    due-without n = ap (λ (f : ℕ). feeds_meet feed f && begun n) (feed-without_place rows m n)

    present-before : (n : ℕ) → present (without_place rows m) n ≡ true → present rows n ≡ true
    present-before n h = elim (cases_eq m n) [
      | inl e ↦ absurd (false≢true (sym (absent-without_place rows m) ∙ ap (present (without_place rows m)) e ∙ h))
      | inr e ↦ ap (λ (o : Option Row). is_some (place_of_row o)) (sym (slice_get-without_other rows m n e)) ∙ h
    ]

    IsLost-without : (n : ℕ) → IsLost feed begun rows given n → IsLost feed begun (without_place rows m) given n
    IsLost-without n lost = record {
      within = omega (arith, length-without_place rows m, lost.within);
      due = due-without n ∙ lost.due;
      gone = false_from_ne_true (present (without_place rows m) n) (λ h. both_ways (present rows n) lost.gone (present-before n h));
      not_given = lost.not_given;
    }

    IsLost-before : (n : ℕ) → IsLost feed begun (without_place rows m) given n → (m ≡ n) ⊎ IsLost feed begun rows given n
    IsLost-before n lost = elim (cases_eq m n) [
      | inl e ↦ inl e
      | inr e ↦ inr (record {
        within = omega (arith, length-without_place rows m, lost.within);
        due = sym (due-without n) ∙ lost.due;
        gone = ap (λ (o : Option Row). is_some (place_of_row o)) (sym (slice_get-without_other rows m n e)) ∙ lost.gone;
        not_given = lost.not_given;
      })
    ]

    -- the row's feedtypes
    feed_at : feed_of_row (slice_get rows m) ≡ row.product.info.feed
    feed_at = ap feed_of_row at

    not_noted : IsAmong (c.told ++ c.untold) m → ⊥
    not_noted h = both_ways (present rows m) (r.noted m h).gone here

    -- a cursor that notes the loss
    IsLost-new : (nat_le c.position m && feeds_meet c.feed row.product.info.feed) ≡ true → IsLost feed begun (without_place rows m) given m
    IsLost-new e =
        let parts = and_parts (nat_le c.position m) (feeds_meet c.feed row.product.info.feed) e in
        let ahead : c.position ≤ m = leb-true c.position m parts.0 in
        let meets : feeds_meet feed (feed_of_row (slice_get rows m)) ≡ true = (λ i. feeds_meet (sym r.same_feed i) (feed_at i)) ∙ parts.1 in
        record {
          within = omega (arith, length-without_place rows m, present-within rows m here);
          due = due-without m ∙ and_from (feeds_meet feed (feed_of_row (slice_get rows m))) (begun m) meets (r.begun_from m ahead here);
          gone = absent-without_place rows m;
          not_given = false_from_ne_true (is_among given m) (λ h. let bounds = Rises-among 0 c.position m given r.rising h in absurd (omega arith));
        }

    pub Reads-noted : (nat_le c.position m && feeds_meet c.feed row.product.info.feed) ≡ true
        → Reads feed begun (without_place rows m) (record c { untold = c.untold ++ m ∷ [] }) given told hold counted
    Reads-noted e = record {
      same_feed = r.same_feed;
      same_given = r.same_given;
      same_held = r.same_held;
      stays = Stays-without rows m hold free r.stays;
      within = omega (arith, length-without_place rows m, r.within);
      later = λ n le. r.later n (omega (arith, length-without_place rows m));
      begun_from = λ n le h. r.begun_from n le (present-before n h);
      passed = λ n lt due h. r.passed n lt (sym (due-without n) ∙ due) (present-before n h);
      rising = r.rising;
      given_due = λ n h. due-without n ∙ r.given_due n h;
      noted = λ n h. elim (among-push (c.told ++ c.untold) m n (subst (λ (ns : List ℕ). IsAmong ns n) (sym (append_assoc c.told c.untold (m ∷ []))) h)) [
        | inl x ↦ IsLost-without n (r.noted n x)
        | inr x ↦ subst (IsLost feed begun (without_place rows m) given) x (IsLost-new e)
      ];
      all_noted = λ n lost. subst (λ (ns : List ℕ). IsAmong ns n) (append_assoc c.told c.untold (m ∷ [])) (elim (IsLost-before n lost) [
        | inl x ↦ subst (IsAmong ((c.told ++ c.untold) ++ m ∷ [])) x (among-pushed (c.told ++ c.untold) m)
        | inr x ↦ among-left (c.told ++ c.untold) (m ∷ []) n (r.all_noted n x)
      ]);
      apart = subst AreApart (append_assoc c.told c.untold (m ∷ [])) (AreApart-push (c.told ++ c.untold) m not_noted r.apart);
      told_noted = r.told_noted;
      noted_told = r.noted_told;
      told_rising = Rises-higher 0 (length rows) (length (without_place rows m)) told (omega (arith, length-without_place rows m)) r.told_rising;
      same_count = r.same_count;
    }

    -- and one whose loss it is not
    not_lost : (nat_le c.position m && feeds_meet c.feed row.product.info.feed) ≡ false → IsLost feed begun (without_place rows m) given m → ⊥
    not_lost e lost = elim (cases_lt m c.position) [
      | inl lt ↦ both_ways (is_among given m) lost.not_given (r.passed m lt (sym (due-without m) ∙ lost.due) here)
      | inr le ↦
          let meets = and_parts (feeds_meet feed (feed_of_row (slice_get (without_place rows m) m))) (begun m) lost.due in
          let same : feeds_meet feed (feed_of_row (slice_get (without_place rows m) m)) ≡ feeds_meet c.feed row.product.info.feed =
          λ i. feeds_meet (sym r.same_feed i) ((feed-without_place rows m m ∙ feed_at) i) in
          both_ways (nat_le c.position m && feeds_meet c.feed row.product.info.feed) e
          (and_from (nat_le c.position m) (feeds_meet c.feed row.product.info.feed) (le-leb c.position m le) (sym same ∙ meets.0))
    ]

    pub Reads-not_noted : (nat_le c.position m && feeds_meet c.feed row.product.info.feed) ≡ false → Reads feed begun (without_place rows m) c given told hold counted
    Reads-not_noted e = record {
      same_feed = r.same_feed;
      same_given = r.same_given;
      same_held = r.same_held;
      stays = Stays-without rows m hold free r.stays;
      within = omega (arith, length-without_place rows m, r.within);
      later = λ n le. r.later n (omega (arith, length-without_place rows m));
      begun_from = λ n le h. r.begun_from n le (present-before n h);
      passed = λ n lt due h. r.passed n lt (sym (due-without n) ∙ due) (present-before n h);
      rising = r.rising;
      given_due = λ n h. due-without n ∙ r.given_due n h;
      noted = λ n h. IsLost-without n (r.noted n h);
      all_noted = λ n lost. elim (IsLost-before n lost) [
        | inl x ↦ absurd (not_lost e (subst (IsLost feed begun (without_place rows m) given) (sym x) lost))
        | inr x ↦ r.all_noted n x
      ];
      apart = r.apart;
      told_noted = r.told_noted;
      noted_told = r.noted_told;
      told_rising = Rises-higher 0 (length rows) (length (without_place rows m)) told (omega (arith, length-without_place rows m)) r.told_rising;
      same_count = r.same_count;
    }
