-- Marks of who owns a region, kept beside the regions.
use Rattle.std.proofs.Common.{◌≡◌, ◌≢◌, ℕ, ◌<◌, Bool, true, false, cond, List, zero, suc, length, get_or, set, replicate, is_some, Some, None, refl, sym, ap, ◌∙◌, inl, inr, get_or-set_other, get_or-set_same, Option}
use Rattle.std.specs.Cmp.{nat_cmp_total}
use Rattle.std.specs.FinMap as fin
use Rattle.std.specs.Ordering.{nat_cmp, eq_by_cmp}
use Rattle.std.proofs.lemmas.Bool.{cases_eq}
use Rattle.ldm_types.specs.Arena.{Region}
use Rattle.ldm_regions.specs.Layout.{Owned}
use Rattle.ldm_regions.proofs.Owners.{itself, same_owner}

abbrev pub Agree : List Bool → Owned → Type 0
Agree owns owned = (k : ℕ) → get_or owns k false ≡ is_some (fin.get owned k)

apart : (b : Bool) (k owner : ℕ) → k ≢ owner → eq_by_cmp nat_cmp k owner ≡ b → b ≡ false
apart true k owner ne e = absurd (ne (same_owner k owner e))
apart false k owner ne e = refl

-- one place changes, on both sides
changed : (owns : List Bool) (owned after : Owned) (owner : ℕ) (b : Bool) (x : Option Region) → owner < length owns → is_some x ≡ b → Agree owns owned → ((k : ℕ) → fin.get after k ≡ cond (eq_by_cmp nat_cmp k owner) x (fin.get owned k)) → Agree (set owns owner b) after
changed owns owned after owner b x h is agree gets k =
    elim (cases_eq k owner) [
      | inl e ↦ ap (λ n. get_or (set owns owner b) n false) e ∙ get_or-set_same owns owner b false h ∙ sym is ∙ ap is_some (sym (gets k ∙ ap (λ n. cond (eq_by_cmp nat_cmp n owner) x (fin.get owned k)) e ∙ ap (λ t. cond t x (fin.get owned k)) (itself owner)))
      | inr ne ↦ get_or-set_other owns owner k b false ne ∙ agree k ∙ ap is_some (sym (gets k ∙ ap (λ t. cond t x (fin.get owned k)) (apart (eq_by_cmp nat_cmp k owner) k owner ne refl)))
    ]

pub agree-insert : (owns : List Bool) (owned : Owned) (owner : ℕ) (region : Region) → owner < length owns → Agree owns owned → Agree (set owns owner true) (fin.insert owned owner region)
agree-insert owns owned owner region h agree = changed owns owned (fin.insert owned owner region) owner true (Some region) h refl agree (fin.get-insert nat_cmp_total owned owner region)

pub agree-remove : (owns : List Bool) (owned : Owned) (owner : ℕ) → owner < length owns → Agree owns owned → Agree (set owns owner false) (fin.remove owned owner)
agree-remove owns owned owner h agree = changed owns owned (fin.remove owned owner) owner false None h refl agree (fin.get-remove nat_cmp_total owned owner)

-- no mark is set at first
pub none_marked : (n k : ℕ) → get_or (replicate n false) k false ≡ false
none_marked zero k = refl
none_marked (suc n) zero = refl
none_marked (suc n) (suc k) = none_marked n k
