-- Sets of the pairs that lists of gaps give, as gaps come and go.
use Rattle.std.proofs.Common.{◌≡◌, ◌≢◌, ℕ, suc, ◌+◌, ◌<◌, ◌≤◌, true, false, cond, not, ◌||◌, ◌&&◌, ltb, List, [], ◌∷◌, ◌++◌, map, length, refl, sym, ap, subst, ◌∙◌, arith}
use Rattle.std.specs.Cmp.{IsTotalOrder, nat_cmp_total}
use Rattle.std.specs.FinSet as set
use Rattle.std.specs.List.{AllByRecursion}
use Rattle.std.specs.Ordering.{eq_by_cmp, is_eq, nat_cmp}
use Rattle.std.specs.declared.cmp.Ordering.TheVariants.{Less, Equal, Greater}
use Rattle.std.proofs.lemmas.Bool.{both_ways, or_right, cond_both, lt-ltb}
use Rattle.std.proofs.lemmas.Cmp.{then_total, on_total, tied_itself}
use Rattle.std.proofs.lemmas.Map.Lookups.{CmpEqualImpliesEq, exact_pairs, exact_unsigned}
use Rattle.ldm_freelist.specs.Pairs.{Pairs, pair_cmp}
use Rattle.ldm_regions.specs.Gaps.{by_extent, by_front, if_any, with_gap, without_gap}
use Rattle.ldm_regions.specs.declared.gaps.Gap.{Gap}
use Rattle.ldm_regions.proofs.Each.{each, each_in_front, each_behind, each_of_both, or_swap}

pub pairs_total : IsTotalOrder pair_cmp
pairs_total = then_total (on_total (λ (p : ℕ × ℕ). p.0) nat_cmp_total) (on_total (λ (p : ℕ × ℕ). p.1) nat_cmp_total)

-- pairs that compare alike are one
pub exact_pair : CmpEqualImpliesEq pair_cmp
exact_pair = exact_pairs nat_cmp nat_cmp exact_unsigned exact_unsigned

-- the set of the pairs that gaps give
abbrev pub pairs_of : (Gap → ℕ × ℕ) → List Gap → set.FinSet pair_cmp
pairs_of key gaps = set.from_list (map key gaps)

pub same_pairs : (s t : set.FinSet pair_cmp) → ((q : ℕ × ℕ) → set.contains s q ≡ set.contains t q) → s ≡ t
same_pairs = set.same_set pairs_total exact_pair

itself : (p : ℕ × ℕ) → eq_by_cmp pair_cmp p p ≡ true
itself p = ap is_eq (tied_itself pairs_total p)

insert_swap : (s : set.FinSet pair_cmp) (p q : ℕ × ℕ) → set.insert (set.insert s p) q ≡ set.insert (set.insert s q) p
insert_swap s p q = same_pairs _ _ (λ k.
    set.contains-insert pairs_total (set.insert s p) q k ∙ ap (λ b. eq_by_cmp pair_cmp k q || b) (set.contains-insert pairs_total s p k)
    ∙ or_swap (eq_by_cmp pair_cmp k q) (eq_by_cmp pair_cmp k p) (set.contains s k)
    ∙ sym (set.contains-insert pairs_total (set.insert s q) p k ∙ ap (λ b. eq_by_cmp pair_cmp k p || b) (set.contains-insert pairs_total s q k)))

-- one that was put in is taken out
remove_inserted : (s : set.FinSet pair_cmp) (p : ℕ × ℕ) → set.contains s p ≡ false → set.remove (set.insert s p) p ≡ s
remove_inserted s p none = same_pairs _ _ (λ q.
    set.contains-remove pairs_total (set.insert s p) p q ∙ ap (λ b. not (eq_by_cmp pair_cmp q p) && b) (set.contains-insert pairs_total s p q)
    ∙ elim (pair_cmp q p) as (λ r. pair_cmp q p ≡ r → (not (is_eq r) && (is_eq r || set.contains s q)) ≡ set.contains s q) [
      | Less ↦ λ e. refl
      | Equal ↦ λ e. sym (ap (set.contains s) (exact_pair q p e) ∙ none)
      | Greater ↦ λ e. refl
    ] refl)

-- a gap more among others
pub pairs_of-more : (key : Gap → ℕ × ℕ) (front : List Gap) (gap : Gap) (behind : List Gap) → pairs_of key (front ++ gap ∷ behind) ≡ set.insert (pairs_of key (front ++ behind)) (key gap)
pairs_of-more key [] gap behind = refl
pairs_of-more key (g ∷ gs) gap behind = ap (λ s. set.insert s (key g)) (pairs_of-more key gs gap behind) ∙ insert_swap (pairs_of key (gs ++ behind)) (key gap) (key g)

-- what the pairs of one gap and others have
pub split_pairs : (key : Gap → ℕ × ℕ) (g : Gap) (gs : List Gap) (p : ℕ × ℕ) (P : Type 0) → set.contains (pairs_of key (g ∷ gs)) p ≡ true → (p ≡ key g → P) → (set.contains (pairs_of key gs) p ≡ true → P) → P
split_pairs key g gs p P there here later =
    elim (pair_cmp p (key g)) as (λ r. pair_cmp p (key g) ≡ r → (is_eq r || set.contains (pairs_of key gs) p) ≡ true → P) [
      | Less ↦ λ e rest. later rest
      | Equal ↦ λ e rest. here (exact_pair p (key g) e)
      | Greater ↦ λ e rest. later rest
    ] refl (sym (set.contains-insert pairs_total (pairs_of key gs) (key g) p) ∙ there)

pub pairs_of-first : (key : Gap → ℕ × ℕ) (g : Gap) (gs : List Gap) → set.contains (pairs_of key (g ∷ gs)) (key g) ≡ true
pairs_of-first key g gs = set.contains-insert pairs_total (pairs_of key gs) (key g) (key g) ∙ ap (λ b. b || set.contains (pairs_of key gs) (key g)) (itself (key g))

pub pairs_of-later : (key : Gap → ℕ × ℕ) (g : Gap) (gs : List Gap) (p : ℕ × ℕ) → set.contains (pairs_of key gs) p ≡ true → set.contains (pairs_of key (g ∷ gs)) p ≡ true
pairs_of-later key g gs p there = set.contains-insert pairs_total (pairs_of key gs) (key g) p ∙ ap (λ b. eq_by_cmp pair_cmp p (key g) || b) there ∙ or_right _ _ refl

pub no_pairs : (key : Gap → ℕ × ℕ) (p : ℕ × ℕ) → set.contains (pairs_of key []) p ≡ true → ⊥
no_pairs key p there = both_ways _ (set.contains-empty pair_cmp p) there

-- no more pairs than gaps
len_of : (key : Gap → ℕ × ℕ) (gaps : List Gap) → set.len (pairs_of key gaps) ≤ length gaps
len_of key [] = let none = set.len-empty pair_cmp in omega (arith, none)
len_of key (g ∷ gs) =
    let rest = len_of key gs in
    let more = set.len-insert pairs_total (pairs_of key gs) (key g) in
    subst (λ n. n ≤ suc (length gs)) (sym more) (cond_both (set.contains (pairs_of key gs) (key g)) (set.len (pairs_of key gs)) (set.len (pairs_of key gs) + 1) (λ n. n ≤ suc (length gs)) (λ _. omega arith) (λ _. omega arith))

-- gaps, each of which begins behind the one before it
abbrev pub Rise : List Gap → Type 0
Rise [] = Unit {0}
Rise (g ∷ gs) = AllByRecursion (λ h. g.start < h.start) gs × Rise gs

length_more : (front : List Gap) (gap : Gap) (behind : List Gap) → length (front ++ gap ∷ behind) ≡ suc (length (front ++ behind))
length_more [] gap behind = refl
length_more (g ∷ gs) gap behind = ap suc (length_more gs gap behind)

Rise-less : (front : List Gap) (gap : Gap) (behind : List Gap) → Rise (front ++ gap ∷ behind) → Rise (front ++ behind)
Rise-less [] gap behind up = up.1
Rise-less (g ∷ gs) gap behind up = (
  each_of_both (λ h. g.start < h.start) gs behind (each_in_front (λ h. g.start < h.start) gs (gap ∷ behind) up.0) (each_behind (λ h. g.start < h.start) gs (gap ∷ behind) up.0).1,
  Rise-less gs gap behind up.1,
)

pub Rise-without : (front : List Gap) (gap : Gap) (behind : List Gap) → Rise (front ++ (if_any gap ++ behind)) → Rise (front ++ behind)
Rise-without front gap behind =
    elim (ltb gap.start gap.end) as (λ b. Rise (front ++ (cond b (gap ∷ []) [] ++ behind)) → Rise (front ++ behind)) [ true ↦ Rise-less front gap behind | false ↦ λ up. up ]

-- no other gap begins where one does
others_apart : (front : List Gap) (gap : Gap) (behind : List Gap) → Rise (front ++ gap ∷ behind) → AllByRecursion (λ h. gap.start ≢ h.start) (front ++ behind)
others_apart [] gap behind up = each (λ h. gap.start < h.start) (λ h. gap.start ≢ h.start) behind (λ h less. omega arith) up.0
others_apart (g ∷ gs) gap behind up =
    let less : g.start < gap.start = (each_behind (λ h. g.start < h.start) gs (gap ∷ behind) up.0).0 in
    (omega arith, others_apart gs gap behind up.1)

-- a pair tells where its gap begins
abbrev pub TellsStart : (Gap → ℕ × ℕ) → Type 0
TellsStart key = (g h : Gap) → key g ≡ key h → g.start ≡ h.start

pub extent_tells : TellsStart by_extent
extent_tells g h e = ap (λ (p : ℕ × ℕ). p.1) e

pub front_tells : TellsStart by_front
front_tells g h e = ap (λ (p : ℕ × ℕ). p.0) e

module _ (key : Gap → ℕ × ℕ) (tells : TellsStart key) where
  none_like : (gap : Gap) (gaps : List Gap) → AllByRecursion (λ h. gap.start ≢ h.start) gaps → set.contains (pairs_of key gaps) (key gap) ≡ false
  none_like gap [] all = set.contains-empty pair_cmp (key gap)
  none_like gap (g ∷ gs) all =
      set.contains-insert pairs_total (pairs_of key gs) (key g) (key gap)
      ∙ elim (pair_cmp (key gap) (key g)) as (λ r. pair_cmp (key gap) (key g) ≡ r → (is_eq r || set.contains (pairs_of key gs) (key gap)) ≡ false) [
        | Less ↦ λ e. none_like gap gs all.1
        | Equal ↦ λ e. absurd (all.0 (tells gap g (exact_pair (key gap) (key g) e)))
        | Greater ↦ λ e. none_like gap gs all.1
      ] refl

  -- a gap that is there is taken out
  taken_out : (front : List Gap) (gap : Gap) (behind : List Gap) → Rise (front ++ (if_any gap ++ behind)) → without_gap key (pairs_of key (front ++ (if_any gap ++ behind))) gap ≡ pairs_of key (front ++ behind)
  taken_out front gap behind =
      elim (ltb gap.start gap.end) as (λ b. Rise (front ++ (cond b (gap ∷ []) [] ++ behind)) → cond b (set.remove (pairs_of key (front ++ (cond b (gap ∷ []) [] ++ behind))) (key gap)) (pairs_of key (front ++ (cond b (gap ∷ []) [] ++ behind))) ≡ pairs_of key (front ++ behind)) [
        | true ↦ λ up. ap (λ s. set.remove s (key gap)) (pairs_of-more key front gap behind) ∙ remove_inserted (pairs_of key (front ++ behind)) (key gap) (none_like gap (front ++ behind) (others_apart front gap behind up))
        | false ↦ λ up. refl
      ]

  -- one that is not is put in
  put_in : (front : List Gap) (gap : Gap) (behind : List Gap) → with_gap key (pairs_of key (front ++ behind)) gap ≡ pairs_of key (front ++ (if_any gap ++ behind))
  put_in front gap behind =
      elim (ltb gap.start gap.end) as (λ b. cond b (set.insert (pairs_of key (front ++ behind)) (key gap)) (pairs_of key (front ++ behind)) ≡ pairs_of key (front ++ (cond b (gap ∷ []) [] ++ behind))) [
        | true ↦ sym (pairs_of-more key front gap behind)
        | false ↦ refl
      ]

  module _ (room : ℕ) where
    -- a set with room for so many pairs has those of these gaps
    abbrev pub Has : List Gap → Pairs → Type 0
    Has gaps pairs = pairs ≡ record { room = room; members = pairs_of key gaps }

    module _ (front : List Gap) (gap : Gap) (behind : List Gap) (pairs : Pairs) where
      pub has_gap : Has (front ++ (if_any gap ++ behind)) pairs → gap.start < gap.end → set.contains pairs.members (key gap) ≡ true
      has_gap has some =
          ap (λ (p : Pairs). set.contains p.members (key gap)) has
          ∙ subst (λ b. set.contains (pairs_of key (front ++ (cond b (gap ∷ []) [] ++ behind))) (key gap) ≡ true) (sym (lt-ltb gap.start gap.end some))
          (ap (λ s. set.contains s (key gap)) (pairs_of-more key front gap behind) ∙ set.contains-insert pairs_total (pairs_of key (front ++ behind)) (key gap) (key gap) ∙ ap (λ b. b || set.contains (pairs_of key (front ++ behind)) (key gap)) (itself (key gap)))

      pub lacks_gap : Rise (front ++ (if_any gap ++ behind)) → Has (front ++ behind) pairs → gap.start < gap.end → set.contains pairs.members (key gap) ≡ false
      lacks_gap up has some =
          ap (λ (p : Pairs). set.contains p.members (key gap)) has
          ∙ none_like gap (front ++ behind) (others_apart front gap behind (subst (λ b. Rise (front ++ (cond b (gap ∷ []) [] ++ behind))) (lt-ltb gap.start gap.end some) up))

      pub has_room : length (front ++ (if_any gap ++ behind)) ≤ room → Has (front ++ behind) pairs → gap.start < gap.end → set.len pairs.members < pairs.room
      has_room fits has some =
          let fewer = len_of key (front ++ behind) in
          let fits = subst (λ b. length (front ++ (cond b (gap ∷ []) [] ++ behind)) ≤ room) (lt-ltb gap.start gap.end some) fits in
          let one = length_more front gap behind in
          let members = ap (λ (p : Pairs). set.len p.members) has in
          let rooms = ap (λ (p : Pairs). p.room) has in
          omega arith

      pub without_it : (less : Pairs) → Rise (front ++ (if_any gap ++ behind)) → Has (front ++ (if_any gap ++ behind)) pairs → less ≡ record pairs { members = without_gap key pairs.members gap } → Has (front ++ behind) less
      without_it less up has is =
          is ∙ ap (λ (p : Pairs). record p { members = without_gap key p.members gap }) has ∙ ap (λ members. record { room = room; members = members }) (taken_out front gap behind up)

      pub with_it : (more : Pairs) → Has (front ++ behind) pairs → more ≡ record pairs { members = with_gap key pairs.members gap } → Has (front ++ (if_any gap ++ behind)) more
      with_it more has is =
          is ∙ ap (λ (p : Pairs). record p { members = with_gap key p.members gap }) has ∙ ap (λ members. record { room = room; members = members }) (put_in front gap behind)
