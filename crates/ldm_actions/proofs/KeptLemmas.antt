-- Entries in the order of their use: what is found, what goes, what is left, and what holds of each.
use Rattle.std.proofs.Common.{◌≡◌, ◌≢◌, ◌∙◌, ℕ, zero, suc, ◌-◌, ◌<◌, ◌≤◌, ◌⊎◌, inl, inr, Bool, true, false, cond, List, [], ◌∷◌, ◌++◌, length, take, Option, Some, None, option_map, refl, sym, ap, subst, arith, length-append}
use Rattle.std.specs.Prelude.{IfSome, IsSome, bytes_eq, is_some, slice_get}
use Rattle.std.specs.Map.{remove_entry, set_value}
use Rattle.std.proofs.Math.Seq.{take-append_seam}
use Rattle.std.proofs.lemmas.Bool.{cases_lt, false≢true}
use Rattle.std.proofs.lemmas.List.{take_all}
use Rattle.std.proofs.lemmas.Option.{slice_get_past}
use Rattle.std.proofs.lemmas.Slice.Eq.{bytes_eq-Decides}
use Rattle.ldm_actions.specs.Kept.{AreApart, Differs, Each, IsNewest, TakesOldest, first_of, gone_of, last_of, number_of, number_under, raised, raised_by, staying}

abbrev pub Entry : Type 0
Entry = List ℕ × ℕ

module _ (P : Entry → Type 0) where
  pub each_front : (kept others : List Entry) → Each P (kept ++ others) → Each P kept
  each_front [] others all = tt
  each_front (it ∷ kept) others all = (all.0, each_front kept others all.1)

  pub each_last : (kept : List Entry) (it : Entry) → Each P (kept ++ it ∷ []) → P it
  each_last [] it all = all.0
  each_last (first ∷ kept) it all = each_last kept it all.1

  module _ (Q : Entry → Type 0) where
    pub each_then : ((it : Entry) → P it → Q it) → (kept : List Entry) → Each P kept → Each Q kept
    each_then step [] all = tt
    each_then step (it ∷ kept) all = (step it all.0, each_then step kept all.1)

    pub each_both : (R : Entry → Type 0) → ((it : Entry) → P it → Q it → R it) → (kept : List Entry) → Each P kept → Each Q kept → Each R kept
    each_both R step [] all also = tt
    each_both R step (it ∷ kept) all also = (step it all.0 also.0, each_both R step kept all.1 also.1)

pub differs_back : (it other : Entry) → Differs it other → Differs other it
differs_back it other apart = (λ same. apart.0 (sym same), λ same. apart.1 (sym same))

pub apart_front : (kept : List Entry) (it : Entry) → AreApart (kept ++ it ∷ []) → AreApart kept
apart_front [] it apart = tt
apart_front (first ∷ kept) it apart = (each_front (Differs first) kept (it ∷ []) apart.0, apart_front kept it apart.1)

pub apart_last : (kept : List Entry) (it : Entry) → AreApart (kept ++ it ∷ []) → Each (Differs it) kept
apart_last [] it apart = tt
apart_last (first ∷ kept) it apart = (differs_back first it (each_last (Differs first) kept it apart.0), apart_last kept it apart.1)

-- all but the last
pub take_front : (kept : List Entry) (it : Entry) → take (length (kept ++ it ∷ []) - 1) (kept ++ it ∷ []) ≡ kept
take_front kept it =
    let n : length (kept ++ it ∷ []) - 1 ≡ length kept = omega (arith, length-append kept (it ∷ [])) in
    ap (λ (m : ℕ). take m (kept ++ it ∷ [])) n ∙ take-append_seam kept (it ∷ [])

module _ (name : List ℕ) where
  -- where no entry has the name
  pub not_under_front : (n : ℕ) (kept : List Entry) → number_under name kept ≡ None → number_under name (take n kept) ≡ None
  not_under_front zero kept none = refl
  not_under_front (suc n) [] none = refl
  not_under_front (suc n) (it ∷ kept) none = by_test (bytes_eq name it.0) (not_under_front n kept) none
    where
      by_test : (b : Bool) → (number_under name kept ≡ None → number_under name (take n kept) ≡ None) →
          cond b (Some it.1) (number_under name kept) ≡ None → cond b (Some it.1) (number_under name (take n kept)) ≡ None
      by_test true later none = absurd (cc)
      by_test false later none = later none

  pub differs_under : (kept : List Entry) → number_under name kept ≡ None → Each (λ it. name ≢ it.0) kept
  differs_under [] none = tt
  differs_under (it ∷ kept) none = by_test (bytes_eq name it.0) refl (differs_under kept) none
    where
      by_test : (b : Bool) → b ≡ bytes_eq name it.0 → (number_under name kept ≡ None → Each (λ it. name ≢ it.0) kept) →
          cond b (Some it.1) (number_under name kept) ≡ None → (name ≢ it.0) × Each (λ it. name ≢ it.0) kept
      by_test true is later none = absurd (cc)
      by_test false is later none =
          (λ same. absurd (false≢true (is ∙ (bytes_eq-Decides name it.0).1 same)), later none)

  -- where one has
  module _ (number : ℕ) where
    pub each_found : (P : Entry → Type 0) (kept : List Entry) → number_under name kept ≡ Some number → Each P kept →
        P (name, number) × Each P (remove_entry (bytes_eq name) kept)
    each_found P [] found all = absurd (cc)
    each_found P (it ∷ kept) found all = by_test (bytes_eq name it.0) refl (λ later. each_found P kept later all.1) found
      where
        by_test : (b : Bool) → b ≡ bytes_eq name it.0 →
            (number_under name kept ≡ Some number → P (name, number) × Each P (remove_entry (bytes_eq name) kept)) →
            cond b (Some it.1) (number_under name kept) ≡ Some number →
            P (name, number) × Each P (cond b kept (it ∷ remove_entry (bytes_eq name) kept))
        by_test true is later found =
            let same : name ≡ it.0 = (bytes_eq-Decides name it.0).0 (sym is) in
            let number_is : it.1 ≡ number = cc in
            let entry_is : it ≡ (name, number) = ap (λ (n : List ℕ). (n, it.1)) (sym same) ∙ ap (λ (n : ℕ). (name, n)) number_is in
            (subst P entry_is all.0, all.1)
        by_test false is later found = let rest = later found in (rest.0, (all.0, rest.1))

    pub apart_found : (kept : List Entry) → number_under name kept ≡ Some number → AreApart kept →
        Each (Differs (name, number)) (remove_entry (bytes_eq name) kept) × AreApart (remove_entry (bytes_eq name) kept)
    apart_found [] found apart = absurd (cc)
    apart_found (it ∷ kept) found apart = by_test (bytes_eq name it.0) refl (λ later. apart_found kept later apart.1) found
      where
        by_test : (b : Bool) → b ≡ bytes_eq name it.0 →
            (number_under name kept ≡ Some number → Each (Differs (name, number)) (remove_entry (bytes_eq name) kept) × AreApart (remove_entry (bytes_eq name) kept)) →
            cond b (Some it.1) (number_under name kept) ≡ Some number →
            Each (Differs (name, number)) (cond b kept (it ∷ remove_entry (bytes_eq name) kept)) × AreApart (cond b kept (it ∷ remove_entry (bytes_eq name) kept))
        by_test true is later found =
            let same : name ≡ it.0 = (bytes_eq-Decides name it.0).0 (sym is) in
            let number_is : it.1 ≡ number = cc in
            let entry_is : it ≡ (name, number) = ap (λ (n : List ℕ). (n, it.1)) (sym same) ∙ ap (λ (n : ℕ). (name, n)) number_is in
            (subst (λ (e : Entry). Each (Differs e) kept) entry_is apart.0, apart.1)
        by_test false is later found =
            let rest = later found in
            let here = each_found (Differs it) kept found apart.0 in
            ((differs_back it (name, number) here.0, rest.0), (here.1, rest.1))

pub last_is : (kept : List Entry) (it : Entry) → slice_get (kept ++ it ∷ []) (length (kept ++ it ∷ []) - 1) ≡ Some it
last_is kept it =
    let n : length (kept ++ it ∷ []) - 1 ≡ length kept = omega (arith, length-append kept (it ∷ [])) in
    ap (λ (m : ℕ). slice_get (kept ++ it ∷ []) m) n ∙ at_end kept
  where
    at_end : (others : List Entry) → slice_get (others ++ it ∷ []) (length others) ≡ Some it
    at_end [] = refl
    at_end (other ∷ others) = at_end others

-- entries that are some have a last one
pub last_part : (kept : List Entry) → 0 < length kept → (front : List Entry) × (it : Entry) × (kept ≡ front ++ it ∷ [])
last_part [] some = absurd (omega (arith, some))
last_part (it ∷ []) some = ([], it, refl)
last_part (it ∷ other ∷ others) some =
    let rest = last_part (other ∷ others) (omega arith) in
    (it ∷ rest.0, rest.1, ap (λ (all : List Entry). it ∷ all) rest.2)

-- ---- a name that is there, or is not

pub found_some : (found : Option ℕ) (b : Bool) → b ≡ is_some found → b ≡ true → (number : ℕ) × (found ≡ Some number)
found_some None b is test = absurd (false≢true (sym is ∙ test))
found_some (Some number) b is test = (number, refl)

pub found_none : (found : Option ℕ) (b : Bool) → b ≡ is_some found → b ≡ false → found ≡ None
found_none None b is test = refl
found_none (Some number) b is test = absurd (false≢true (sym test ∙ is))

-- nothing was raised where no entry has the name
pub not_raised : (name : List ℕ) (kept new : List Entry) (b : Bool) → b ≡ is_some (number_under name kept) → b ≡ false → new ≡ raised name kept → new ≡ kept
not_raised name kept new b found test is =
    is ∙ ap (λ (number : Option ℕ). raised_by number name kept) (found_none (number_under name kept) b found test)

-- the newest entry got its number
pub numbered : (name : List ℕ) (number other : ℕ) (kept reserved new : List Entry) → reserved ≡ (name, other) ∷ kept →
    new ≡ set_value (bytes_eq name) reserved number → new ≡ (name, number) ∷ kept
numbered name number other kept reserved new is set =
    let equal : bytes_eq name name ≡ true = (bytes_eq-Decides name name).1 refl in
    set
    ∙ ap (λ (all : List Entry). set_value (bytes_eq name) all number) is
    ∙ ap (λ (b : Bool). cond b ((name, number) ∷ kept) ((name, other) ∷ set_value (bytes_eq name) kept number)) equal

-- ---- the newest and the oldest

pub some_first : (kept : List Entry) → 0 < length kept → IsSome (option_map number_of (first_of kept))
some_first [] some = absurd (omega (arith, some))
some_first (it ∷ others) some = refl

pub first_newest : (kept : List Entry) (first : Option ℕ) (number : ℕ) → first ≡ option_map number_of (first_of kept) → first ≡ Some number →
    (name : List ℕ) × IsNewest (name, number) kept
first_newest [] first number is some = absurd (cc)
first_newest (it ∷ others) first number is some =
    let same : it.1 ≡ number = cc in
    (it.0, record { others = others; is = ap (λ (n : ℕ). (it.0, n) ∷ others) same })

last_taken : (front : List Entry) (it : Entry) →
    TakesOldest (option_map number_of (last_of (front ++ it ∷ []))) (front ++ it ∷ []) (take (length (front ++ it ∷ []) - 1) (front ++ it ∷ []))
last_taken front it =
    let all : List Entry = front ++ it ∷ [] in
    subst (λ (last : Option Entry). TakesOldest (option_map number_of last) all (take (length all - 1) all)) (sym (last_is front it))
    (it.0, ap (λ (left : List Entry). left ++ it ∷ []) (sym (take_front front it)))

pub takes_last : (kept : List Entry) → TakesOldest (option_map number_of (last_of kept)) kept (take (length kept - 1) kept)
takes_last [] = (refl, refl)
takes_last (first ∷ others) =
    let last = last_part (first ∷ others) (omega arith) in
    subst (λ (all : List Entry). TakesOldest (option_map number_of (last_of all)) all (take (length all - 1) all)) (sym last.2)
    (last_taken last.0 last.1)

-- ---- what goes where one more is kept

-- there is room for one more, and nothing goes
abbrev pub HasRoom : List Entry → Type 0
HasRoom kept = (length kept < 32) × (staying kept ≡ kept) × (gone_of kept ≡ None)

-- there is none, and the oldest goes
abbrev pub IsFull : List Entry → Type 0
IsFull kept = (front : List Entry) × (it : Entry) × (kept ≡ front ++ it ∷ []) × (staying kept ≡ front) × (gone_of kept ≡ Some it.1) × (32 ≤ length kept)

pub room_or_full : (kept : List Entry) → length kept ≤ 32 → HasRoom kept ⊎ IsFull kept
room_or_full kept most = elim (cases_lt (length kept) 32) [
  | inl lt ↦ inl (lt, take_all 31 kept (omega (arith, lt)), ap (option_map number_of) (slice_get_past kept 31 (omega (arith, lt))))
  | inr ge ↦ inr (full ge)
]
  where
    full : 32 ≤ length kept → IsFull kept
    full ge =
        let last = last_part kept (omega (arith, ge)) in
        let n : 31 ≡ length kept - 1 = omega (arith, most, ge) in (
          last.0,
          last.1,
          last.2,
          ap (λ (m : ℕ). take m kept) n ∙ ap (λ (all : List Entry). take (length all - 1) all) last.2 ∙ take_front last.0 last.1,
          ap (λ (m : ℕ). option_map number_of (slice_get kept m)) n
              ∙ ap (λ (all : List Entry). option_map number_of (last_of all)) last.2
              ∙ ap (option_map number_of) (last_is last.0 last.1),
          ge,
        )

-- what holds of each that is kept holds of what goes
pub each_gone : (P : Entry → Type 0) (Q : ℕ → Type 0) → ((it : Entry) → P it → Q it.1) → (kept : List Entry) (n : ℕ) → Each P kept →
    IfSome (option_map number_of (slice_get kept n)) Q
each_gone P Q step [] n all = tt
each_gone P Q step (it ∷ kept) zero all = step it all.0
each_gone P Q step (it ∷ kept) (suc n) all = each_gone P Q step kept n all.1
