-- A history in which no actor has an entry is empty.
use Rattle.std.proofs.Common.{◌≡◌, ℕ, ◌<◌, Bool, cond, List, [], ◌∷◌, length, map, get_or, eq-eqb, refl, sym, ap, subst, ◌∙◌, arith}
use Rattle.std.specs.List.{All, range_with_len}
use Rattle.std.proofs.lemmas.List.FromFn.{length-map-range_with_len, get_or-map-range_with_len}
use Rattle.ldm_model.specs.declared.event.Entry.{Entry}
use Rattle.ldm_shared.specs.Own.{own, AreBelow}
use Rattle.ldm_shared.specs.Passes.{SharedView, PassView, IsLast, HasAllOf, new_pass}

none_own : (entry : Entry) (history : List Entry) → own entry.actor (entry ∷ history) ≡ [] → ⊥
none_own entry history none =
    cc (sym (ap (λ (b : Bool). cond b (entry ∷ own entry.actor history) (own entry.actor history)) (eq-eqb entry.actor entry.actor refl)) ∙ none)

empty_of : (n : ℕ) (history : List Entry) → AreBelow n history → ((actor : ℕ) → actor < n → own actor history ≡ []) → history ≡ []
empty_of n [] below none = refl
empty_of n (entry ∷ history) below none = absurd (none_own entry history (none entry.actor below.0))

-- where no call was made with the new passes, the last one has seen nothing
pub unseen_by_all : (shared : SharedView) (passes : List PassView) (last : PassView) → passes ≡ map (new_pass shared) (range_with_len 0 shared.passes)
    → IsLast shared last → All (HasAllOf last) passes → last.seen ≡ []
unseen_by_all shared passes last are is_last all =
    empty_of shared.passes last.seen (subst (λ (n : ℕ). AreBelow n last.seen) (ap (λ (p : PassView). p.passes) is_last.ended) is_last.has_seen.below)
    (λ actor less.
    let size = length-map-range_with_len (new_pass shared) 0 shared.passes in
    let here : get_or passes actor last ≡ new_pass shared actor =
    ap (λ (ps : List PassView). get_or ps actor last) are ∙ get_or-map-range_with_len (new_pass shared) 0 shared.passes actor actor last (omega arith) (omega arith) in
    (subst (HasAllOf last) here (all actor last (omega (arith, size, ap length are)))).own)
