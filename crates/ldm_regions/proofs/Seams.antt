-- The gaps between regions, and the one where a region comes between others.
use Rattle.std.proofs.Common.{◌≡◌, ℕ, suc, ◌+◌, ◌-◌, ◌<◌, ◌≤◌, ◌⊎◌, inl, inr, true, false, cond, ltb, List, [], ◌∷◌, ◌++◌, map, length, refl, sym, ap, ◌∙◌, arith}
use Rattle.std.specs.FinSet as set
use Rattle.std.specs.List.{AllByRecursion}
use Rattle.std.proofs.lemmas.Bool.{ltb-true}
use Rattle.std.proofs.lemmas.List.{append_assoc}
use Rattle.ldm_types.specs.Arena.{Region}
use Rattle.ldm_regions.specs.Order.{Used, Lie, space_before, spaces}
use Rattle.ldm_regions.specs.Gaps.{by_extent, by_front, if_any, gaps_between}
use Rattle.ldm_regions.specs.declared.gaps.Gap.{Gap}
use Rattle.ldm_regions.proofs.Lies.{Lie-within, last_end, first_start}
use Rattle.ldm_regions.proofs.Sets.{Rise, pairs_of, split_pairs, pairs_of-first, pairs_of-later, no_pairs}

-- the owner of the last of some regions, and of the first
abbrev pub last_owner : ℕ → List Used → ℕ
last_owner owner [] = owner
last_owner owner (u ∷ us) = last_owner u.owner us

abbrev pub first_owner : List Used → ℕ → ℕ
first_owner [] last = last
first_owner (u ∷ us) last = u.owner

-- the gaps in front of each region, and behind the first
abbrev pub gaps_in_front : ℕ → ℕ → List Used → List Gap
gaps_in_front owner from [] = []
gaps_in_front owner from (u ∷ us) = if_any (record { start = from; end = u.start; front = owner }) ++ gaps_in_front u.owner (u.start + u.extent) us

abbrev pub gaps_behind : List Used → ℕ → List Gap
gaps_behind [] arena = []
gaps_behind (u ∷ us) arena = gaps_between u.owner (u.start + u.extent) us arena

-- the gap between regions in front and regions behind
abbrev pub gap_at : ℕ → ℕ → List Used → List Used → ℕ → Gap
gap_at owner from front behind arena = record { start = last_end from front; end = first_start behind arena; front = last_owner owner front }

pub gaps_around : (owner from : ℕ) (front behind : List Used) (arena : ℕ) → gaps_between owner from (front ++ behind) arena ≡ gaps_in_front owner from front ++ (if_any (gap_at owner from front behind arena) ++ gaps_behind behind arena)
gaps_around owner from [] [] arena = refl
gaps_around owner from [] (v ∷ vs) arena = refl
gaps_around owner from (u ∷ us) behind arena =
    let first : Gap = record { start = from; end = u.start; front = owner } in
    ap (λ gaps. if_any first ++ gaps) (gaps_around u.owner (u.start + u.extent) us behind arena)
    ∙ sym (append_assoc (if_any first) (gaps_in_front u.owner (u.start + u.extent) us) (if_any (gap_at u.owner (u.start + u.extent) us behind arena) ++ gaps_behind behind arena))

-- a gap that may be empty, in front of others
all_any : (P : Gap → Type 0) (gap : Gap) (gaps : List Gap) → (gap.start < gap.end → P gap) → AllByRecursion P gaps → AllByRecursion P (if_any gap ++ gaps)
all_any P gap gaps here all =
    elim (ltb gap.start gap.end) as (λ b. ltb gap.start gap.end ≡ b → AllByRecursion P (cond b (gap ∷ []) [] ++ gaps)) [ true ↦ λ e. (here (ltb-true gap.start gap.end e), all) | false ↦ λ e. all ] refl

Rise_any : (gap : Gap) (gaps : List Gap) → (gap.start < gap.end → AllByRecursion (λ h. gap.start < h.start) gaps) → Rise gaps → Rise (if_any gap ++ gaps)
Rise_any gap gaps here up =
    elim (ltb gap.start gap.end) as (λ b. ltb gap.start gap.end ≡ b → Rise (cond b (gap ∷ []) [] ++ gaps)) [ true ↦ λ e. (here (ltb-true gap.start gap.end e), up) | false ↦ λ e. up ] refl

length_any : (gap : Gap) (gaps : List Gap) → length (if_any gap ++ gaps) ≤ suc (length gaps)
length_any gap gaps = elim (ltb gap.start gap.end) as (λ b. length (cond b (gap ∷ []) [] ++ gaps) ≤ suc (length gaps)) [ true ↦ omega arith | false ↦ omega arith ]

-- each of them begins behind an earlier position
pub begin_behind : (early owner from : ℕ) (used : List Used) (arena : ℕ) → early < from → Lie from used arena → AllByRecursion (λ g. early < g.start) (gaps_between owner from used arena)
begin_behind early owner from [] arena h lie = all_any (λ g. early < g.start) (record { start = from; end = arena; front = owner }) [] (λ _. h) tt
begin_behind early owner from (u ∷ us) arena h lie =
    let k = lie.0 in
    all_any (λ g. early < g.start) (record { start = from; end = u.start; front = owner }) (gaps_between u.owner (u.start + u.extent) us arena) (λ _. h) (begin_behind early u.owner (u.start + u.extent) us arena (omega arith) lie.2)

pub gaps_rise : (owner from : ℕ) (used : List Used) (arena : ℕ) → Lie from used arena → Rise (gaps_between owner from used arena)
gaps_rise owner from [] arena lie = Rise_any (record { start = from; end = arena; front = owner }) [] (λ _. tt) tt
gaps_rise owner from (u ∷ us) arena lie =
    let k = lie.0 in
    let some = lie.1 in
    Rise_any (record { start = from; end = u.start; front = owner }) (gaps_between u.owner (u.start + u.extent) us arena)
    (λ _. begin_behind from u.owner (u.start + u.extent) us arena (omega arith) lie.2) (gaps_rise u.owner (u.start + u.extent) us arena lie.2)

pub gaps_length : (owner from : ℕ) (used : List Used) (arena : ℕ) → length (gaps_between owner from used arena) ≤ suc (length used)
gaps_length owner from [] arena = length_any (record { start = from; end = arena; front = owner }) []
gaps_length owner from (u ∷ us) arena =
    let one = length_any (record { start = from; end = u.start; front = owner }) (gaps_between u.owner (u.start + u.extent) us arena) in
    let rest = gaps_length u.owner (u.start + u.extent) us arena in
    omega arith

-- they are the spaces between the regions
abbrev pub as_region : Gap → Region
as_region gap = record { start = gap.start; extent = gap.end - gap.start }

space_any : (gap : Gap) (gaps : List Gap) → space_before gap.start gap.end (map as_region gaps) ≡ map as_region (if_any gap ++ gaps)
space_any gap gaps = elim (ltb gap.start gap.end) as (λ b. cond b (as_region gap ∷ map as_region gaps) (map as_region gaps) ≡ map as_region (cond b (gap ∷ []) [] ++ gaps)) [ true ↦ refl | false ↦ refl ]

pub spaces_are : (owner from : ℕ) (used : List Used) (arena : ℕ) → spaces from used arena ≡ map as_region (gaps_between owner from used arena)
spaces_are owner from [] arena = space_any (record { start = from; end = arena; front = owner }) []
spaces_are owner from (u ∷ us) arena =
    ap (space_before from u.start) (spaces_are u.owner (u.start + u.extent) us arena)
    ∙ space_any (record { start = from; end = u.start; front = owner }) (gaps_between u.owner (u.start + u.extent) us arena)

-- a gap is some positions of the arena
pub record Within (arena : ℕ) (gap : Gap) : Type 0 where
  pub some : gap.start < gap.end
  pub end : gap.end ≤ arena

pub gaps_within : (owner from : ℕ) (used : List Used) (arena : ℕ) → Lie from used arena → AllByRecursion (Within arena) (gaps_between owner from used arena)
gaps_within owner from [] arena lie =
    all_any (Within arena) (record { start = from; end = arena; front = owner }) [] (λ some. record { some = some; end = omega arith }) tt
gaps_within owner from (u ∷ us) arena lie =
    let within = Lie-within (u.start + u.extent) us arena lie.2 in
    all_any (Within arena) (record { start = from; end = u.start; front = owner }) (gaps_between u.owner (u.start + u.extent) us arena)
    (λ some. record { some = some; end = omega arith }) (gaps_within u.owner (u.start + u.extent) us arena lie.2)

-- the number in front of each is an owner's, or the wall's
pub gaps_fronts : (wall owner from : ℕ) (used : List Used) (arena : ℕ) → owner ≤ wall → AllByRecursion (λ u. u.owner < wall) used → AllByRecursion (λ g. g.front ≤ wall) (gaps_between owner from used arena)
gaps_fronts wall owner from [] arena h below = all_any (λ g. g.front ≤ wall) (record { start = from; end = arena; front = owner }) [] (λ _. h) tt
gaps_fronts wall owner from (u ∷ us) arena h below =
    let k = below.0 in
    all_any (λ g. g.front ≤ wall) (record { start = from; end = u.start; front = owner }) (gaps_between u.owner (u.start + u.extent) us arena) (λ _. h) (gaps_fronts wall u.owner (u.start + u.extent) us arena (omega arith) below.1)

-- what is true of each gap is true of each pair
pub each_pair : (key : Gap → ℕ × ℕ) (P : Gap → Type 0) (Q : ℕ × ℕ → Type 0) → ((g : Gap) (p : ℕ × ℕ) → p ≡ key g → P g → Q p) → (gaps : List Gap) (p : ℕ × ℕ) → AllByRecursion P gaps → set.contains (pairs_of key gaps) p ≡ true → Q p
each_pair key P Q gives [] p all there = absurd (no_pairs key p there)
each_pair key P Q gives (g ∷ gs) p all there = split_pairs key g gs p (Q p) there (λ is. gives g p is all.0) (λ later. each_pair key P Q gives gs p all.1 later)

-- a pair of an extent and a start has a pair of that start and a front
pub record Fronted (gaps : List Gap) (start : ℕ) : Type 0 where
  pub front : ℕ
  pub there : set.contains (pairs_of by_front gaps) (start, front) ≡ true

pub fronted : (gaps : List Gap) (extent start : ℕ) → set.contains (pairs_of by_extent gaps) (extent, start) ≡ true → Fronted gaps start
fronted [] extent start there = absurd (no_pairs by_extent (extent, start) there)
fronted (g ∷ gs) extent start there =
    split_pairs by_extent g gs (extent, start) (Fronted (g ∷ gs) start) there
    (λ is. record { front = g.front; there = ap (λ (n : ℕ). set.contains (pairs_of by_front (g ∷ gs)) (n, g.front)) (ap (λ (p : ℕ × ℕ). p.1) is) ∙ pairs_of-first by_front g gs })
    (λ later. let rest = fronted gs extent start later in record { front = rest.front; there = pairs_of-later by_front g gs (start, rest.front) rest.there })

-- one of the gaps
abbrev pub In : Gap → List Gap → Type 0
In gap [] = ⊥
In gap (g ∷ gs) = (g ≡ gap) ⊎ In gap gs

-- the gap that an extent, a start and a front are of
pub record GapOf (gaps : List Gap) (extent start front : ℕ) : Type 0 where
  pub gap : Gap
  pub among : In gap gaps
  pub extent_is : gap.end - gap.start ≡ extent
  pub start_is : gap.start ≡ start
  pub front_is : gap.front ≡ front

pub behind_extent : (early : ℕ) (gaps : List Gap) (p : ℕ × ℕ) → AllByRecursion (λ g. early < g.start) gaps → set.contains (pairs_of by_extent gaps) p ≡ true → early < p.1
behind_extent early = each_pair by_extent (λ g. early < g.start) (λ p. early < p.1) (λ g p is less. let e = ap (λ (p : ℕ × ℕ). p.1) is in omega (arith, e, less))

behind_front : (early : ℕ) (gaps : List Gap) (p : ℕ × ℕ) → AllByRecursion (λ g. early < g.start) gaps → set.contains (pairs_of by_front gaps) p ≡ true → early < p.0
behind_front early = each_pair by_front (λ g. early < g.start) (λ p. early < p.0) (λ g p is less. let e = ap (λ (p : ℕ × ℕ). p.0) is in omega (arith, e, less))

pub gap_of : (gaps : List Gap) (extent start front : ℕ) → Rise gaps → set.contains (pairs_of by_extent gaps) (extent, start) ≡ true → set.contains (pairs_of by_front gaps) (start, front) ≡ true → GapOf gaps extent start front
gap_of [] extent start front up one other = absurd (no_pairs by_extent (extent, start) one)
gap_of (g ∷ gs) extent start front up one other =
    split_pairs by_extent g gs (extent, start) (GapOf (g ∷ gs) extent start front) one
    (λ is. let at = ap (λ (p : ℕ × ℕ). p.1) is in
    split_pairs by_front g gs (start, front) (GapOf (g ∷ gs) extent start front) other
    (λ also. record { gap = g; among = inl refl; extent_is = sym (ap (λ (p : ℕ × ℕ). p.0) is); start_is = sym at; front_is = sym (ap (λ (p : ℕ × ℕ). p.1) also) })
    (λ later. let less = behind_front g.start gs (start, front) up.0 later in absurd (omega (arith, less, at))))
    (λ rest. let less = behind_extent g.start gs (extent, start) up.0 rest in
    split_pairs by_front g gs (start, front) (GapOf (g ∷ gs) extent start front) other
    (λ also. let at = ap (λ (p : ℕ × ℕ). p.0) also in absurd (omega (arith, less, at)))
    (λ later. let found = gap_of gs extent start front up.1 rest later in record { gap = found.gap; among = inr found.among; extent_is = found.extent_is; start_is = found.start_is; front_is = found.front_is }))

-- where a gap lies: between the regions in front of it and those behind it
pub record Spot (owner from : ℕ) (used : List Used) (arena : ℕ) (gap : Gap) : Type 0 where
  pub front : List Used
  pub behind : List Used
  pub whole : used ≡ front ++ behind
  pub at : gap ≡ gap_at owner from front behind arena

pub in_any : (gap first : Gap) (gaps : List Gap) (P : Type 0) → In gap (if_any first ++ gaps) → (first ≡ gap → P) → (In gap gaps → P) → P
in_any gap first gaps P among here later =
    elim (ltb first.start first.end) as (λ b. In gap (cond b (first ∷ []) [] ++ gaps) → P) [
      | true ↦ λ among. elim among [ inl e ↦ here e | inr rest ↦ later rest ]
      | false ↦ later
    ] among

pub spot_of : (owner from : ℕ) (used : List Used) (arena : ℕ) (gap : Gap) → In gap (gaps_between owner from used arena) → Spot owner from used arena gap
spot_of owner from [] arena gap among =
    in_any gap (record { start = from; end = arena; front = owner }) [] (Spot owner from [] arena gap) among (λ e. record { front = []; behind = []; whole = refl; at = sym e }) (λ none. absurd none)
spot_of owner from (u ∷ us) arena gap among =
    in_any gap (record { start = from; end = u.start; front = owner }) (gaps_between u.owner (u.start + u.extent) us arena) (Spot owner from (u ∷ us) arena gap) among
    (λ e. record { front = []; behind = u ∷ us; whole = refl; at = sym e })
    (λ rest. let spot = spot_of u.owner (u.start + u.extent) us arena gap rest in record { front = u ∷ spot.front; behind = spot.behind; whole = ap (λ vs. u ∷ vs) spot.whole; at = spot.at })
