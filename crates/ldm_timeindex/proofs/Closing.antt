-- A hole in a list that is closed by moving entries one by one, from its front or from its back.
use Rattle.std.proofs.Common.{◌≡◌, ℕ, zero, suc, ◌+◌, ◌-◌, ◌<◌, ◌≤◌, inl, inr, List, [], ◌∷◌, length, get_or, take, drop, set, remove, refl, sym, ap, ◌∙◌, arith, length-drop, length-set, length-take-le, get_or-drop, get_or-take, get_or-set_other, get_or-set_same}
use Rattle.std.proofs.lemmas.Bool.{cases_eq, cases_lt}
use Rattle.std.proofs.lemmas.List.{get_or_default, same_lists}
use Rattle.std.proofs.lemmas.List.Edits.{get_or-remove_above, get_or-remove_below, length-remove}

module _ {X : Type 0} where
  -- The hole has come from an entry's place to the front as far as another: what stood before the entry, from the hole
  -- on, stands one place further on.
  pub record FrontMoved (xs now : List X) (index hole : ℕ) : Type 0 where
    pub same_length : length now ≡ length xs
    pub before : (k : ℕ) (d : X) → k ≤ hole → get_or now k d ≡ get_or xs k d
    pub moved : (k : ℕ) (d : X) → hole ≤ k → k < index → get_or now (k + 1) d ≡ get_or xs k d
    pub behind : (k : ℕ) (d : X) → index < k → get_or now k d ≡ get_or xs k d

  pub front_none : (xs : List X) (index : ℕ) → FrontMoved xs xs index index
  front_none xs index = record {
    same_length = refl;
    before = λ _ _ _. refl;
    moved = λ k d low high. absurd (omega arith);
    behind = λ _ _ _. refl;
  }

  pub front_more : (xs now : List X) (index hole : ℕ) (entry d' : X) → index < length xs → 0 < hole → hole ≤ index → entry ≡ get_or now (hole - 1) d' → FrontMoved xs now index hole → FrontMoved xs (set now hole entry) index (hole - 1)
  front_more xs now index hole entry d' inside some below read was = record {
    same_length = length-set now hole entry ∙ was.same_length;
    before = λ k d le. get_or-set_other now hole k entry d (λ same. omega arith) ∙ was.before k d (omega arith);
    moved = λ k d low high.
        elim (cases_eq (k + 1) hole) [
          | inl same ↦
              ap (λ j. get_or (set now hole entry) j d) same
              ∙ get_or-set_same now hole entry d (omega (arith, was.same_length))
              ∙ read
              ∙ get_or_default now (hole - 1) d' d (omega (arith, was.same_length))
              ∙ was.before (hole - 1) d (omega arith)
              ∙ ap (λ j. get_or xs j d) (omega arith)
          | inr apart ↦ get_or-set_other now hole (k + 1) entry d apart ∙ was.moved k d (omega arith) high
        ];
    behind = λ k d lt. get_or-set_other now hole k entry d (λ same. omega arith) ∙ was.behind k d lt;
  }

  pub front_closed : (xs now : List X) (index : ℕ) → index < length xs → FrontMoved xs now index 0 → drop 1 now ≡ remove xs index
  front_closed xs now index inside was =
      let dropped = length-drop 1 now in
      let removed = length-remove xs index inside in
      same_lists (drop 1 now) (remove xs index) (omega (arith, was.same_length))
      (λ k d lt.
      let read : get_or (drop 1 now) k d ≡ get_or now (k + 1) d = get_or-drop 1 now k d ∙ ap (λ j. get_or now j d) (omega arith) in
      elim (cases_lt k index) [
        | inl low ↦ read ∙ was.moved k d (omega arith) low ∙ sym (get_or-remove_below xs index d k low inside)
        | inr high ↦ read ∙ was.behind (k + 1) d (omega arith) ∙ sym (get_or-remove_above xs index d k high inside)
      ])

  -- The hole has come from an entry's place to the back as far as another: what stood behind the entry, up to the hole,
  -- stands one place further to the front.
  pub record BackMoved (xs now : List X) (index hole : ℕ) : Type 0 where
    pub same_length : length now ≡ length xs
    pub before : (k : ℕ) (d : X) → k < index → get_or now k d ≡ get_or xs k d
    pub moved : (k : ℕ) (d : X) → index ≤ k → k < hole → get_or now k d ≡ get_or xs (k + 1) d
    pub behind : (k : ℕ) (d : X) → hole ≤ k → get_or now k d ≡ get_or xs k d

  pub back_none : (xs : List X) (index : ℕ) → BackMoved xs xs index index
  back_none xs index = record {
    same_length = refl;
    before = λ _ _ _. refl;
    moved = λ k d low high. absurd (omega arith);
    behind = λ _ _ _. refl;
  }

  pub back_more : (xs now : List X) (index hole : ℕ) (entry d' : X) → hole + 1 < length xs → index ≤ hole → entry ≡ get_or now (hole + 1) d' → BackMoved xs now index hole → BackMoved xs (set now hole entry) index (hole + 1)
  back_more xs now index hole entry d' inside below read was = record {
    same_length = length-set now hole entry ∙ was.same_length;
    before = λ k d lt. get_or-set_other now hole k entry d (λ same. omega arith) ∙ was.before k d lt;
    moved = λ k d low high.
        elim (cases_eq k hole) [
          | inl same ↦
              ap (λ j. get_or (set now hole entry) j d) same
              ∙ get_or-set_same now hole entry d (omega (arith, was.same_length))
              ∙ read
              ∙ get_or_default now (hole + 1) d' d (omega (arith, was.same_length))
              ∙ was.behind (hole + 1) d (omega arith)
              ∙ ap (λ j. get_or xs (j + 1) d) (sym same)
          | inr apart ↦ get_or-set_other now hole k entry d apart ∙ was.moved k d low (omega arith)
        ];
    behind = λ k d le. get_or-set_other now hole k entry d (λ same. omega arith) ∙ was.behind k d (omega arith);
  }

  pub back_closed : (xs now : List X) (count index : ℕ) → count ≤ length xs → index < count → BackMoved xs now index (count - 1) → take (count - 1) now ≡ remove (take count xs) index
  back_closed xs now count index fits inside was =
      let kept = length-take-le (count - 1) now (omega (arith, was.same_length)) in
      let whole = length-take-le count xs fits in
      let removed = length-remove (take count xs) index (omega arith) in
      same_lists (take (count - 1) now) (remove (take count xs) index) (omega arith)
      (λ k d lt.
      let read = get_or-take (count - 1) now k d (omega arith) in
      elim (cases_lt k index) [
        | inl low ↦ read ∙ was.before k d low ∙ sym (get_or-take count xs k d (omega arith)) ∙ sym (get_or-remove_below (take count xs) index d k low (omega arith))
        | inr high ↦
            read ∙ was.moved k d high (omega arith) ∙ sym (get_or-take count xs (k + 1) d (omega arith)) ∙ sym (get_or-remove_above (take count xs) index d k high (omega arith))
      ])

  -- an entry that is taken out of a list is taken out of its front
  remove-take : (xs : List X) (count index : ℕ) → index ≤ count → count < length xs → take count (remove xs index) ≡ remove (take (suc count) xs) index
  remove-take [] count index le lt = absurd (omega arith)
  remove-take (x ∷ xs) count zero le lt = refl
  remove-take (x ∷ xs) zero (suc index) le lt = absurd (omega arith)
  remove-take (x ∷ xs) (suc count) (suc index) le lt = ap (λ rest. x ∷ rest) (remove-take xs count index (omega arith) (omega arith))

  pub front_taken : (xs : List X) (count index : ℕ) → index < count → count ≤ length xs → take (count - 1) (remove xs index) ≡ remove (take count xs) index
  front_taken xs count index lt fits =
      let whole : suc (count - 1) ≡ count = omega arith in
      remove-take xs (count - 1) index (omega arith) (omega arith) ∙ ap (λ n. remove (take n xs) index) whole
