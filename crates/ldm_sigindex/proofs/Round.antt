-- Places of a table, going round.
use Rattle.std.proofs.Common.{◌≡◌, ℕ, ◌+◌, ◌-◌, ◌<◌, ◌≤◌, ◌⊎◌, inl, inr, if◌then◌else◌, nat_lt, arith}
use Rattle.std.proofs.lemmas.Bool.{cases_eq, cases_lt, cond-false, cond-true, eq-eqb, le-ltb, lt-ltb, ne_eqb}
use Rattle.ldm_sigindex.specs.Entries.{IsOnWay, after_of}

-- how far it is from a place to another
abbrev pub way : ℕ → ℕ → ℕ → ℕ
way places at to = if nat_lt to at then to + places - at else to - at

after_is : (places at : ℕ) → ((at + 1 ≡ places) × (after_of places at ≡ 0)) ⊎ ((at + 1 ≡ places → ⊥) × (after_of places at ≡ at + 1))
after_is places at =
    elim (cases_eq (at + 1) places) [
      | inl last ↦ inl (last, cond-true _ _ _ (eq-eqb (at + 1) places last))
      | inr more ↦ inr (more, cond-false _ _ _ (ne_eqb (at + 1) places more))
    ]

way_is : (places at to : ℕ) → ((to < at) × (way places at to ≡ to + places - at)) ⊎ ((at ≤ to) × (way places at to ≡ to - at))
way_is places at to =
    elim (cases_lt to at) [
      | inl lt ↦ inl (lt, cond-true _ _ _ (lt-ltb to at lt))
      | inr ge ↦ inr (ge, cond-false _ _ _ (le-ltb to at ge))
    ]

pub after_inside : (places at : ℕ) → at < places → after_of places at < places
after_inside places at inside = elim (after_is places at) [ inl last ↦ omega arith | inr more ↦ omega arith ]

pub way_falls : (places at to : ℕ) → at < places → to < places → (at ≡ to → ⊥) → way places (after_of places at) to < way places at to
way_falls places at to inside to_inside apart =
    let next = after_of places at in
    elim (after_is places at) [
      | inl last ↦ elim (way_is places at to) [
        | inl a ↦ elim (way_is places next to) [ inl b ↦ omega arith | inr b ↦ omega arith ]
        | inr a ↦ elim (way_is places next to) [ inl b ↦ omega arith | inr b ↦ omega arith ]
      ]
      | inr more ↦ elim (way_is places at to) [
        | inl a ↦ elim (way_is places next to) [ inl b ↦ omega arith | inr b ↦ omega arith ]
        | inr a ↦ elim (way_is places next to) [ inl b ↦ omega arith | inr b ↦ omega arith ]
      ]
    ]

-- nothing is on the way to where it begins
pub none_on_way : (home place : ℕ) → IsOnWay home place home → ⊥
none_on_way home place on = grind arith

-- of two places, one is on the way to the other
pub either_on_way : (home place at : ℕ) → (place ≡ at → ⊥) → IsOnWay home place at ⊎ IsOnWay home at place
either_on_way home place at apart = grind arith

-- what is on the way to the next place
pub on_way_after : (places home place at : ℕ) → at < places → place < places → IsOnWay home place (after_of places at) → (place ≡ at) ⊎ IsOnWay home place at
on_way_after places home place at inside place_inside on =
    elim (after_is places at) [ inl last ↦ grind arith | inr more ↦ grind arith ]

-- what is on the way from a place on the way
pub on_way_behind : (home middle place at : ℕ) → IsOnWay home middle at → IsOnWay middle place at → IsOnWay home place at
on_way_behind home middle place at on behind = grind arith

-- what is on the way to a place on the way
pub on_way_before : (home middle place at : ℕ) → IsOnWay home middle at → IsOnWay home place middle → IsOnWay home place at
on_way_before home middle place at on before = grind arith

-- the next place is on the way to where the place leads to
next_is_on_way : (places at next to : ℕ) → at < places → to < places → (at ≡ to → ⊥) → (next ≡ to → ⊥) → ((at + 1 ≡ places) × (next ≡ 0)) ⊎ ((at + 1 ≡ places → ⊥) × (next ≡ at + 1)) →
    IsOnWay at next to
next_is_on_way places at next to inside to_inside apart more is = grind arith

pub next_on_way : (places at to : ℕ) → at < places → to < places → (at ≡ to → ⊥) → (after_of places at ≡ to → ⊥) → IsOnWay at (after_of places at) to
next_on_way places at to inside to_inside apart more = next_is_on_way places at (after_of places at) to inside to_inside apart more (after_is places at)

next_is_further : (places home at next to : ℕ) → at < places → to < places → IsOnWay home at to → (next ≡ to → ⊥) → ((at + 1 ≡ places) × (next ≡ 0)) ⊎ ((at + 1 ≡ places → ⊥) × (next ≡ at + 1)) →
    IsOnWay home next to
next_is_further places home at next to inside to_inside on more is = grind arith

pub next_further : (places home at to : ℕ) → at < places → to < places → IsOnWay home at to → (after_of places at ≡ to → ⊥) → IsOnWay home (after_of places at) to
next_further places home at to inside to_inside on more = next_is_further places home at (after_of places at) to inside to_inside on more (after_is places at)

-- the next place is not where the way begins
pub next_apart : (places home at to : ℕ) → at < places → to < places → home < places → (home ≡ to → ⊥) → IsOnWay home at to → after_of places at ≡ home → ⊥
next_apart places home at to inside to_inside home_inside apart on same = elim (after_is places at) [ inl last ↦ grind arith | inr more ↦ grind arith ]

pub after_apart : (places at to : ℕ) → at < places → to < places → (at ≡ to → ⊥) → after_of places at ≡ at → ⊥
after_apart places at to inside to_inside apart same = elim (after_is places at) [ inl last ↦ omega arith | inr more ↦ omega arith ]
