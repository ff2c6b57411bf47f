-- The regions of owners, as a list in the order in which they lie and as a map.
use Rattle.std.proofs.Common.{◌≡◌, ℕ, ◌≢◌, Bool, true, false, cond, ◌||◌, List, [], ◌∷◌, ◌++◌, length, map, Option, Some, None, is_some, T, refl, sym, ap, subst, ◌∙◌, arith}
use Rattle.std.specs.Cmp.{nat_cmp_total, eq_by_cmp_equiv, Equal-is}
use Rattle.std.proofs.lemmas.Bool.{both_ways}
use Rattle.std.specs.FinMap as fin
use Rattle.std.specs.FinMap.{find, put, nat_cmp-IsAntisymmetric}
use Rattle.std.specs.FinMap.Entries.{by_order}
use Rattle.std.specs.List.{AllByRecursion, list_any, filter}
use Rattle.std.specs.Ordering.{nat_cmp, eq_by_cmp, is_eq}
use Rattle.std.specs.declared.cmp.Ordering.TheVariants.{Less, Equal, Greater}
use Rattle.ldm_types.specs.Arena.{Region}
use Rattle.ldm_regions.specs.Layout.{Owned, occupied}
use Rattle.ldm_regions.specs.Order.{Used, region_of, entry_of, HaveOwners}
use Rattle.ldm_regions.proofs.Each.{or_swap}

-- what is found for an owner, one region after another
abbrev pub region_at : ℕ → List Used → Option Region
region_at owner used = find nat_cmp owner (map entry_of used)

abbrev pub owned_by : List Used → Owned
owned_by used = fin.from_entries (map entry_of used)

pub get-owned_by : (used : List Used) (owner : ℕ) → fin.get (owned_by used) owner ≡ region_at owner used
get-owned_by used owner = fin.get-from_entries nat_cmp_total (map entry_of used) owner

same_owned : (one other : Owned) → ((owner : ℕ) → fin.get one owner ≡ fin.get other owner) → one ≡ other
same_owned = fin.same_map nat_cmp_total nat_cmp-IsAntisymmetric

pub same_owner : (one other : ℕ) → eq_by_cmp nat_cmp one other ≡ true → one ≡ other
same_owner one other e = nat_cmp-IsAntisymmetric one other ((Equal-is (nat_cmp one other)).0 e)

pub itself : (owner : ℕ) → eq_by_cmp nat_cmp owner owner ≡ true
itself owner = (eq_by_cmp_equiv nat_cmp_total).refl owner

turned : (one other : ℕ) → eq_by_cmp nat_cmp one other ≡ eq_by_cmp nat_cmp other one
turned = (eq_by_cmp_equiv nat_cmp_total).symm

-- a look-up that found nothing did not stop
pub none_parts : {A : Type 0} (b : Bool) (x : A) (rest : Option A) → cond b (Some x) rest ≡ None → (b ≡ false) × (rest ≡ None)
none_parts true x rest e = absurd (subst (λ o. T (is_some o)) e tt)
none_parts false x rest e = (refl, e)

-- two tests of which not both hold may change places
swapped : {A : Type 0} (a b : Bool) (x y whole rest : A) → whole ≡ cond a x rest → (a ≡ true → b ≡ true → ⊥) → cond b y whole ≡ cond a x (cond b y rest)
swapped true true x y whole rest e apart = absurd (apart refl refl)
swapped true false x y whole rest e apart = e
swapped false true x y whole rest e apart = refl
swapped false false x y whole rest e apart = e

-- one more
region_at-more : (front : List Used) (u : Used) (behind : List Used) (owner : ℕ) → region_at u.owner (front ++ behind) ≡ None → region_at owner (front ++ u ∷ behind) ≡ cond (eq_by_cmp nat_cmp owner u.owner) (Some (region_of u)) (region_at owner (front ++ behind))
region_at-more [] u behind owner none = refl
region_at-more (v ∷ vs) u behind owner none =
    let parts = none_parts (eq_by_cmp nat_cmp u.owner v.owner) (region_of v) (region_at u.owner (vs ++ behind)) none in
    swapped (eq_by_cmp nat_cmp owner u.owner) (eq_by_cmp nat_cmp owner v.owner) (Some (region_of u)) (Some (region_of v)) _ (region_at owner (vs ++ behind)) (region_at-more vs u behind owner parts.1)
    (λ p q. both_ways _ parts.0 (ap (λ n. eq_by_cmp nat_cmp n v.owner) (sym (same_owner owner u.owner p)) ∙ q))

pub owned_by-more : (front : List Used) (u : Used) (behind : List Used) → region_at u.owner (front ++ behind) ≡ None → owned_by (front ++ u ∷ behind) ≡ fin.insert (owned_by (front ++ behind)) u.owner (region_of u)
owned_by-more front u behind none = same_owned _ _ (λ owner.
    get-owned_by (front ++ u ∷ behind) owner ∙ region_at-more front u behind owner none
    ∙ sym (fin.get-insert nat_cmp_total (owned_by (front ++ behind)) u.owner (region_of u) owner ∙ ap (cond (eq_by_cmp nat_cmp owner u.owner) (Some (region_of u))) (get-owned_by (front ++ behind) owner)))

-- each owner still stands once
pub HaveOwners-more : (front : List Used) (u : Used) (behind : List Used) → region_at u.owner (front ++ behind) ≡ None → HaveOwners (front ++ behind) → HaveOwners (front ++ u ∷ behind)
HaveOwners-more [] u behind none have = (none, have)
HaveOwners-more (v ∷ vs) u behind none have =
    let parts = none_parts (eq_by_cmp nat_cmp u.owner v.owner) (region_of v) (region_at u.owner (vs ++ behind)) none in
    (region_at-more vs u behind v.owner parts.1 ∙ ap (λ b. cond b (Some (region_of u)) (region_at v.owner (vs ++ behind))) (turned v.owner u.owner ∙ parts.0) ∙ have.0, HaveOwners-more vs u behind parts.1 have.1)

-- an owner that none of some regions has
record NoneOf (front : List Used) (u : Used) (behind : List Used) (owner : ℕ) : Type 0 where
  other : eq_by_cmp nat_cmp owner u.owner ≡ false
  rest : region_at owner (front ++ behind) ≡ None

none_of : (front : List Used) (u : Used) (behind : List Used) (owner : ℕ) → region_at owner (front ++ u ∷ behind) ≡ None → NoneOf front u behind owner
none_of [] u behind owner none =
    let parts = none_parts (eq_by_cmp nat_cmp owner u.owner) (region_of u) (region_at owner behind) none in
    record { other = parts.0; rest = parts.1 }
none_of (v ∷ vs) u behind owner none =
    let parts = none_parts (eq_by_cmp nat_cmp owner v.owner) (region_of v) (region_at owner (vs ++ u ∷ behind)) none in
    let rest = none_of vs u behind owner parts.1 in
    record { other = rest.other; rest = ap (λ b. cond b (Some (region_of v)) (region_at owner (vs ++ behind))) parts.0 ∙ rest.rest }

pub HaveOwners-less : (front : List Used) (u : Used) (behind : List Used) → HaveOwners (front ++ u ∷ behind) → HaveOwners (front ++ behind)
HaveOwners-less [] u behind have = have.1
HaveOwners-less (v ∷ vs) u behind have = ((none_of vs u behind v.owner have.0).rest, HaveOwners-less vs u behind have.1)

-- the owner of one region has no other
pub owner_once : (front : List Used) (u : Used) (behind : List Used) → HaveOwners (front ++ u ∷ behind) → region_at u.owner (front ++ behind) ≡ None
owner_once [] u behind have = have.0
owner_once (v ∷ vs) u behind have =
    ap (λ b. cond b (Some (region_of v)) (region_at u.owner (vs ++ behind))) (turned u.owner v.owner ∙ (none_of vs u behind v.owner have.0).other) ∙ owner_once vs u behind have.1

gone : (b : Bool) (x rest : Option Region) → (b ≡ true → rest ≡ None) → rest ≡ cond b None (cond b x rest)
gone true x rest none = none refl
gone false x rest none = refl

-- one less
pub owned_by-less : (front : List Used) (u : Used) (behind : List Used) → HaveOwners (front ++ u ∷ behind) → owned_by (front ++ behind) ≡ fin.remove (owned_by (front ++ u ∷ behind)) u.owner
owned_by-less front u behind have =
    let none = owner_once front u behind have in
    same_owned _ _ (λ owner.
    get-owned_by (front ++ behind) owner
    ∙ gone (eq_by_cmp nat_cmp owner u.owner) (Some (region_of u)) (region_at owner (front ++ behind)) (λ e. ap (λ n. region_at n (front ++ behind)) (same_owner owner u.owner e) ∙ none)
    ∙ sym (fin.get-remove nat_cmp_total (owned_by (front ++ u ∷ behind)) u.owner owner
    ∙ ap (cond (eq_by_cmp nat_cmp owner u.owner) None) (get-owned_by (front ++ u ∷ behind) owner ∙ region_at-more front u behind owner none)))

-- where the region of an owner stands among the others
pub record Place (used : List Used) (owner : ℕ) : Type 0 where
  pub front : List Used
  pub mid : Used
  pub behind : List Used
  pub whole : used ≡ front ++ mid ∷ behind
  pub owner_is : owner ≡ mid.owner

pub place_of : (used : List Used) (owner : ℕ) → is_some (region_at owner used) ≡ true → Place used owner
place_of [] owner there = absurd (both_ways false refl there)
place_of (v ∷ vs) owner there =
    elim (eq_by_cmp nat_cmp owner v.owner) as (λ b. eq_by_cmp nat_cmp owner v.owner ≡ b → is_some (cond b (Some (region_of v)) (region_at owner vs)) ≡ true → Place (v ∷ vs) owner) [
      | true ↦ λ e _. record { front = []; mid = v; behind = vs; whole = refl; owner_is = same_owner owner v.owner e }
      | false ↦ λ e rest. let place = place_of vs owner rest in record { front = v ∷ place.front; mid = place.mid; behind = place.behind; whole = ap (λ us. v ∷ us) place.whole; owner_is = place.owner_is }
    ] refl there

-- those that pass a test of the owner
filtered : (m pq pv e : Bool) (r whole rest : Option Region) → whole ≡ cond pq rest None → (e ≡ true → pq ≡ pv) → pv ≡ m → cond m (cond e r whole) whole ≡ cond pq (cond e r rest) None
filtered true true pv e r whole rest is same tested = ap (cond e r) is
filtered true false pv true r whole rest is same tested = absurd (both_ways pv (sym (same refl)) tested)
filtered true false pv false r whole rest is same tested = is
filtered false true pv true r whole rest is same tested = absurd (both_ways pv tested (sym (same refl)))
filtered false true pv false r whole rest is same tested = is
filtered false false pv e r whole rest is same tested = is

nothing : (b : Bool) → ◌≡◌ {A = Option Region} None (cond b None None)
nothing true = refl
nothing false = refl

pub region_at-filter : (p : ℕ → Bool) (used : List Used) (owner : ℕ) → region_at owner (filter (λ u. p u.owner) used) ≡ cond (p owner) (region_at owner used) None
region_at-filter p [] owner = nothing (p owner)
region_at-filter p (v ∷ vs) owner =
    elim (p v.owner) as (λ m. p v.owner ≡ m → region_at owner (cond m (v ∷ filter (λ u. p u.owner) vs) (filter (λ u. p u.owner) vs)) ≡ cond (p owner) (region_at owner (v ∷ vs)) None) [
      | true ↦ filtered true (p owner) (p v.owner) (eq_by_cmp nat_cmp owner v.owner) (Some (region_of v)) _ (region_at owner vs) (region_at-filter p vs owner) (λ e. ap p (same_owner owner v.owner e))
      | false ↦ filtered false (p owner) (p v.owner) (eq_by_cmp nat_cmp owner v.owner) (Some (region_of v)) _ (region_at owner vs) (region_at-filter p vs owner) (λ e. ap p (same_owner owner v.owner e))
    ] refl

pub owned_by-filter : (p : ℕ → Bool) (used : List Used) → owned_by (filter (λ u. p u.owner) used) ≡ fin.retain_keys (owned_by used) p
owned_by-filter p used = same_owned _ _ (λ owner.
    get-owned_by (filter (λ u. p u.owner) used) owner ∙ region_at-filter p used owner
    ∙ sym (fin.get-retain_keys (owned_by used) p owner (λ other tie. ap p (sym (nat_cmp-IsAntisymmetric owner other tie))) ∙ ap (λ o. cond (p owner) o None) (get-owned_by used owner)))

none-filter : (p : ℕ → Bool) (used : List Used) (owner : ℕ) → region_at owner used ≡ None → region_at owner (filter (λ u. p u.owner) used) ≡ None
none-filter p used owner none = region_at-filter p used owner ∙ ap (λ o. cond (p owner) o None) none ∙ sym (nothing (p owner))

pub HaveOwners-filter : (p : ℕ → Bool) (used : List Used) → HaveOwners used → HaveOwners (filter (λ u. p u.owner) used)
HaveOwners-filter p [] have = tt
HaveOwners-filter p (v ∷ vs) have =
    elim (p v.owner) as (λ b. HaveOwners (cond b (v ∷ filter (λ u. p u.owner) vs) (filter (λ u. p u.owner) vs))) [
      | true ↦ (none-filter p vs v.owner have.0, HaveOwners-filter p vs have.1)
      | false ↦ HaveOwners-filter p vs have.1
    ]

no_length : {A : Type 0} (es : List A) → length es ≡ 0 → es ≡ []
no_length [] e = refl
no_length (x ∷ es) e = absurd (omega arith)

any_put : (f : Region → Bool) (owner : ℕ) (region : Region) (es : List (ℕ × Region)) → find nat_cmp owner es ≡ None → list_any f (map (λ e. e.1) (put nat_cmp owner region es)) ≡ (f region || list_any f (map (λ e. e.1) es))
any_put f owner region [] none = refl
any_put f owner region (e ∷ es) none =
    let parts = none_parts (eq_by_cmp nat_cmp owner e.0) e.1 (find nat_cmp owner es) none in
    elim (nat_cmp owner e.0) as (λ r. nat_cmp owner e.0 ≡ r → list_any f (map (λ e. e.1) (by_order r ((owner, region) ∷ e ∷ es) ((e.0, region) ∷ es) (e ∷ put nat_cmp owner region es))) ≡ (f region || (f e.1 || list_any f (map (λ e. e.1) es)))) [
      | Less ↦ λ _. refl
      | Equal ↦ λ tie. absurd (both_ways _ parts.0 (ap is_eq tie))
      | Greater ↦ λ _. ap (λ b. f e.1 || b) (any_put f owner region es parts.1) ∙ or_swap (f e.1) (f region) (list_any f (map (λ e. e.1) es))
    ] refl

-- a test of the regions that owners have, in whatever order
pub any-owned_by : (f : Region → Bool) (used : List Used) → HaveOwners used → list_any f (occupied (owned_by used)) ≡ list_any f (map region_of used)
any-owned_by f [] have = ap (λ es. list_any f (map (λ (e : ℕ × Region). e.1) es)) (no_length (fin.entries fin.empty) (sym (fin.len-entries (fin.empty {X = Region} {R = nat_cmp})) ∙ fin.len-empty nat_cmp Region))
any-owned_by f (v ∷ vs) have =
    ap (λ es. list_any f (map (λ (e : ℕ × Region). e.1) es)) (fin.entries-insert nat_cmp_total (owned_by vs) v.owner (region_of v))
    ∙ any_put f v.owner (region_of v) (fin.entries (owned_by vs)) (sym (fin.get-entries (owned_by vs) v.owner) ∙ get-owned_by vs v.owner ∙ have.0)
    ∙ ap (λ b. f (region_of v) || b) (any-owned_by f vs have.1)

-- an owner is none of the owners of some regions
abbrev pub Lacks : ℕ → List Used → Type 0
Lacks owner used = AllByRecursion (λ u. owner ≢ u.owner) used

pub none_lacks : (owner : ℕ) (used : List Used) → region_at owner used ≡ None → Lacks owner used
none_lacks owner [] none = tt
none_lacks owner (v ∷ vs) none =
    let parts = none_parts (eq_by_cmp nat_cmp owner v.owner) (region_of v) (region_at owner vs) none in
    (λ e. both_ways _ parts.0 (ap (eq_by_cmp nat_cmp owner) (sym e) ∙ itself owner), none_lacks owner vs parts.1)
