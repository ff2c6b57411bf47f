-- A table as it is read from one place on, all round: its entries, and what a write to it changes.
use Rattle.std.proofs.Common.{◌≡◌, ℕ, ◌+◌, ◌-◌, ◌<◌, ◌≤◌, ◌⊎◌, inl, inr, List, [], ◌∷◌, ◌++◌, length, get_or, take, drop, remove, set, sym, ap, ap₂, ◌∙◌, arith, length-append, length-drop, length-set, length-take-le, get_or-drop, get_or-take, get_or-set_other, get_or-set_same}
use Rattle.std.proofs.lemmas.Bool.{cases_eq, cases_lt, cond-false, cond-true, le-ltb, lt-ltb}
use Rattle.std.proofs.lemmas.List.{get_or_append_left, get_or-append_right, same_lists, take_more_set}
use Rattle.ldm_timeindex.specs.declared.entry.Entry.{Entry}
use Rattle.ldm_timeindex.specs.Ring.{Held, place_of, turned}
use Rattle.ldm_timeindex.proofs.Closing.{front_taken}

-- a place is before the end of the table, or goes on at its front
place_is : (first room index : ℕ) → ((first + index < room) × (place_of first room index ≡ first + index)) ⊎ ((room ≤ first + index) × (place_of first room index ≡ first + index - room))
place_is first room index =
    elim (cases_lt (first + index) room) [
      | inl lt ↦ inl (lt, cond-true _ _ _ (lt-ltb (first + index) room lt))
      | inr ge ↦ inr (ge, cond-false _ _ _ (le-ltb (first + index) room ge))
    ]

pub place_inside : (first room index : ℕ) → first ≤ room → index < room → place_of first room index < room
place_inside first room index in_room lt = elim (place_is first room index) [ inl straight ↦ omega arith | inr round ↦ omega arith ]

place_apart : (first room index other : ℕ) → first ≤ room → index < room → other < room → (other ≡ index → ⊥) → place_of first room other ≡ place_of first room index → ⊥
place_apart first room index other in_room lt other_lt apart same =
    elim (place_is first room index) [
      | inl straight ↦ elim (place_is first room other) [ inl straight' ↦ apart (omega arith) | inr round' ↦ omega arith ]
      | inr round ↦ elim (place_is first room other) [ inl straight' ↦ omega arith | inr round' ↦ apart (omega arith) ]
    ]

-- one place further on
place_next : (first room index : ℕ) → first ≤ room → index + 1 < room → place_of (place_of first room 1) room index ≡ place_of first room (index + 1)
place_next first room index in_room lt =
    let next = place_of first room 1 in
    elim (place_is first room 1) [
      | inl a ↦ elim (place_is next room index) [
        | inl b ↦ elim (place_is first room (index + 1)) [ inl d ↦ omega arith | inr d ↦ omega arith ]
        | inr b ↦ elim (place_is first room (index + 1)) [ inl d ↦ omega arith | inr d ↦ omega arith ]
      ]
      | inr a ↦ elim (place_is next room index) [
        | inl b ↦ elim (place_is first room (index + 1)) [ inl d ↦ omega arith | inr d ↦ omega arith ]
        | inr b ↦ elim (place_is first room (index + 1)) [ inl d ↦ omega arith | inr d ↦ omega arith ]
      ]
    ]

pub length-turned : (first : ℕ) (table : List Entry) → first ≤ length table → length (turned first table) ≡ length table
length-turned first table in_room =
    omega (arith, length-append (drop first table) (take first table), length-drop first table, length-take-le first table in_room)

pub get_or-turned : (first : ℕ) (table : List Entry) (index : ℕ) (d : Entry) → first ≤ length table → index < length table → get_or (turned first table) index d ≡ get_or table (place_of first (length table) index) d
get_or-turned first table index d in_room lt =
    let len = length-drop first table in
    elim (place_is first (length table) index) [
      | inl straight ↦
          get_or_append_left (drop first table) (take first table) d index (omega arith) ∙ get_or-drop first table index d ∙ ap (λ k. get_or table k d) (sym straight.1)
      | inr round ↦
          get_or-append_right (drop first table) (take first table) (length table - first) index d len (omega arith)
          ∙ get_or-take first table _ d (omega arith)
          ∙ ap (λ k. get_or table k d) (omega arith)
    ]

pub turned-set : (first : ℕ) (table : List Entry) (index : ℕ) (entry : Entry) → first ≤ length table → index < length table → turned first (set table (place_of first (length table) index) entry) ≡ set (turned first table) index entry
turned-set first table index entry in_room lt =
    let room = length table in
    let place = place_of first room index in
    let table' = set table place entry in
    let len : length table' ≡ room = length-set table place entry in
    let now = length-turned first table in_room in
    let then = length-turned first table' (omega arith) in
    same_lists (turned first table') (set (turned first table) index entry) (omega (arith, length-set (turned first table) index entry))
    (λ k d k_lt.
    let read : get_or (turned first table') k d ≡ get_or table' (place_of first room k) d =
    get_or-turned first table' k d (omega arith) (omega arith) ∙ ap (λ n. get_or table' (place_of first n k) d) len in
    elim (cases_eq k index) [
      | inl same ↦
          read ∙ ap (λ j. get_or table' (place_of first room j) d) same
          ∙ get_or-set_same table place entry d (place_inside first room index in_room lt)
          ∙ sym (get_or-set_same (turned first table) index entry d (omega arith))
          ∙ ap (λ j. get_or (set (turned first table) index entry) j d) (sym same)
      | inr apart ↦
          read ∙ get_or-set_other table place (place_of first room k) entry d (place_apart first room index k in_room lt (omega arith) apart)
          ∙ sym (get_or-turned first table k d in_room (omega arith))
          ∙ sym (get_or-set_other (turned first table) index k entry d apart)
    ])

-- an entry behind the others
pub turned_push : (first : ℕ) (table : List Entry) (count : ℕ) (entry : Entry) → first ≤ length table → count < length table → take (count + 1) (turned first (set table (place_of first (length table) count) entry)) ≡ take count (turned first table) ++ entry ∷ []
turned_push first table count entry in_room lt =
    ap (take (count + 1)) (turned-set first table count entry in_room lt) ∙ take_more_set (turned first table) count entry (omega (arith, length-turned first table in_room))

-- the table read from the place of the second entry on
pub turned_next : (first : ℕ) (table : List Entry) (count : ℕ) → first ≤ length table → count < length table → take count (turned (place_of first (length table) 1) table) ≡ take count (drop 1 (turned first table))
turned_next first table count in_room lt =
    let next = place_of first (length table) 1 in
    let next_in_room : next ≤ length table = elim (place_is first (length table) 1) [ inl a ↦ omega arith | inr a ↦ omega arith ] in
    let now = length-turned first table in_room in
    let then = length-turned next table next_in_room in
    let dropped = length-drop 1 (turned first table) in
    same_lists (take count (turned next table)) (take count (drop 1 (turned first table)))
    (length-take-le count (turned next table) (omega arith) ∙ sym (length-take-le count (drop 1 (turned first table)) (omega arith)))
    (λ k d k_lt.
    let below : k < count = omega (arith, length-take-le count (turned next table) (omega arith)) in
    get_or-take count (turned next table) k d below
    ∙ get_or-turned next table k d next_in_room (omega arith)
    ∙ ap (λ j. get_or table j d) (place_next first (length table) k in_room (omega arith))
    ∙ sym (get_or-turned first table (k + 1) d in_room (omega arith))
    ∙ ap (λ j. get_or (turned first table) j d) (omega arith)
    ∙ sym (get_or-drop 1 (turned first table) k d)
    ∙ sym (get_or-take count (drop 1 (turned first table)) k d below))

-- ---- what the ring holds after a change

abbrev pub held_of : ℕ → List Entry → Held
held_of room entries = record { room = room; entries = entries }

same_held : (room room' : ℕ) (entries entries' : List Entry) → room ≡ room' → entries ≡ entries' → held_of room entries ≡ held_of room' entries'
same_held room room' entries entries' same same' =
    ap₂ held_of same same'

-- what a ring holds
abbrev pub held_by : List Entry → ℕ → ℕ → Held
held_by table first count = record { room = length table; entries = take count (turned first table) }

pub held_push : (table : List Entry) (first count place : ℕ) (entry : Entry) → first ≤ length table → count < length table → place ≡ place_of first (length table) count → held_by (set table place entry) first (count + 1) ≡ record { room = length table; entries = take count (turned first table) ++ entry ∷ [] }
held_push table first count place entry in_room lt at =
    same_held _ _ _ _ (length-set table place entry)
    (ap (λ here. take (count + 1) (turned first (set table here entry))) at ∙ turned_push first table count entry in_room lt)

pub held_from_front : (table table' : List Entry) (first count index next : ℕ) → first ≤ length table → count ≤ length table → index < count → length table' ≡ length table → drop 1 (turned first table') ≡ remove (turned first table) index → next ≡ place_of first (length table') 1 → held_by table' next (count - 1) ≡ record { room = length table; entries = remove (take count (turned first table)) index }
held_from_front table table' first count index next in_room fits lt len closed at =
    same_held _ _ _ _ len
    (ap (λ here. take (count - 1) (turned here table')) at
    ∙ turned_next first table' (count - 1) (omega arith) (omega arith)
    ∙ ap (take (count - 1)) closed
    ∙ front_taken (turned first table) count index lt (omega (arith, length-turned first table in_room)))

pub held_from_back : (table table' : List Entry) (first count index : ℕ) → length table' ≡ length table → take (count - 1) (turned first table') ≡ remove (take count (turned first table)) index → held_by table' first (count - 1) ≡ record { room = length table; entries = remove (take count (turned first table)) index }
held_from_back table table' first count index len closed = same_held _ _ _ _ len closed
