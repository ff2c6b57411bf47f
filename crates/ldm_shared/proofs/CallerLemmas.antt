-- For callers: the passes of a new queue are all of it, and are so still where each made calls.
use Rattle.std.proofs.Common.{◌≡◌, ℕ, zero, suc, ◌+◌, ◌<◌, ◌≤◌, List, [], ◌∷◌, length, map, get_or, refl, ap, sym, subst, ◌∙◌, arith}
use Rattle.std.specs.List.{Contains, range_with_len}
use mathlib.Core.Logic.{dite}
use native.Mathlib.Decide.{ℕ_discrete}
use Rattle.ldm_shared.specs.Passes.{SharedView, PassView, IsPassOf, IsSamePass, AreAllOf, new_pass}

abbrev actors : List PassView → List ℕ
actors passes = map (λ (pass : PassView). pass.actor) passes

-- the same pass is of the same queue
pub same_of : (shared : SharedView) (old new : PassView) → IsPassOf shared old → IsSamePass old new → IsPassOf shared new
same_of shared old new of same = record {
  queue = ap (λ (p : PassView). p.queue) same ∙ of.queue;
  arena = ap (λ (p : PassView). p.arena) same ∙ of.arena;
  slots = ap (λ (p : PassView). p.slots) same ∙ of.slots;
  passes = ap (λ (p : PassView). p.passes) same ∙ of.passes;
}

new_of : (shared : SharedView) (numbers : List ℕ) (k : ℕ) (d : PassView) → k < length (map (new_pass shared) numbers) → IsPassOf shared (get_or (map (new_pass shared) numbers) k d)
new_of shared [] k d less = absurd (omega arith)
new_of shared (n ∷ numbers) zero d less = record { queue = refl; arena = refl; slots = refl; passes = refl }
new_of shared (n ∷ numbers) (suc k) d less = new_of shared numbers k d (omega arith)

new_contains : (shared : SharedView) (a n actor : ℕ) → a ≤ actor → actor < a + n → Contains (actors (map (new_pass shared) (range_with_len a n))) actor
new_contains shared a zero actor above below = absurd (omega arith)
new_contains shared a (suc n) actor above below =
    dite (ℕ_discrete a actor) (λ same. (0, omega arith, same))
    (λ other. let rest = new_contains shared (a + 1) n actor (omega arith) (omega arith) in (suc rest.0, (let less = rest.1 in omega arith), rest.2))

-- the passes that `create` makes
pub new_are_all : (shared : SharedView) → AreAllOf shared (map (new_pass shared) (range_with_len 0 shared.passes))
new_are_all shared = record {
  of = λ k d less. new_of shared (range_with_len 0 shared.passes) k d less;
  all = λ actor less. new_contains shared 0 shared.passes actor (omega arith) (omega arith);
}

same_actor : (old new : List PassView) (k actor : ℕ) → length new ≡ length old → ((i : ℕ) (d : PassView) → i < length old → IsSamePass (get_or old i d) (get_or new i d))
    → k < length (actors old) → get_or (actors old) k actor ≡ actor → (k < length (actors new)) × (get_or (actors new) k actor ≡ actor)
same_actor [] new k actor same each less is = absurd (omega arith)
same_actor (p ∷ old) [] k actor same each less is = absurd (omega arith)
same_actor (p ∷ old) (q ∷ new) zero actor same each less is = (omega arith, ap (λ (x : PassView). x.actor) (each 0 p (omega arith)) ∙ is)
same_actor (p ∷ old) (q ∷ new) (suc k) actor same each less is =
    let rest = same_actor old new k actor (omega arith) (λ i d l. each (suc i) d (omega arith)) (omega arith) is in ((let l = rest.0 in omega arith), rest.1)

-- passes of which each made calls, each at its place
pub still_are_all : (shared : SharedView) (old new : List PassView) → AreAllOf shared old → length new ≡ length old
    → ((i : ℕ) (d : PassView) → i < length old → IsSamePass (get_or old i d) (get_or new i d)) → AreAllOf shared new
still_are_all shared old new are same each = record {
  of = λ k d less. same_of shared (get_or old k d) (get_or new k d) (are.of k d (omega arith)) (each k d (omega arith));
  all = λ actor less.
      let has = are.all actor less in
      let there = same_actor old new has.0 actor same each has.1 has.2 in
      (has.0, there.0, there.1);
}

-- two passes, of a queue with as many
pub two_are_all : (shared : SharedView) (first second : PassView) → shared.passes ≡ 2 → IsPassOf shared first × (first.actor ≡ 0) → IsPassOf shared second × (second.actor ≡ 1)
    → AreAllOf shared (first ∷ second ∷ [])
two_are_all shared first second two is_first is_second = record { of = each; all = among }
  where
    each : (k : ℕ) (d : PassView) → k < length (first ∷ second ∷ []) → IsPassOf shared (get_or (first ∷ second ∷ []) k d)
    each zero d less = is_first.0
    each (suc zero) d less = is_second.0
    each (suc (suc k)) d less = absurd (omega arith)

    among : (actor : ℕ) → actor < shared.passes → Contains (actors (first ∷ second ∷ [])) actor
    among zero less = (0, omega arith, is_first.1)
    among (suc zero) less = (1, omega arith, is_second.1)
    among (suc (suc actor)) less = absurd (omega (arith, two, less))

-- what `create` says of the passes that it makes
pub made_are_all : (shared : SharedView) (passes : List PassView) (n : ℕ) → passes ≡ map (new_pass shared) (range_with_len 0 n) → shared.passes ≡ n → AreAllOf shared passes
made_are_all shared passes n made size =
    subst (AreAllOf shared) (sym (made ∙ ap (λ (k : ℕ). map (new_pass shared) (range_with_len 0 k)) (sym size))) (new_are_all shared)
