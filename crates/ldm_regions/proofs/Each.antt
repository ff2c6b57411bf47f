-- What is true of each element of a list, and of two lists joined.
use Rattle.std.proofs.Common.{◌≡◌, Bool, true, false, ◌||◌, List, [], ◌∷◌, ◌++◌, refl}
use Rattle.std.specs.List.{AllByRecursion}

module _ {X : Type 0} where
  pub each : (P Q : X → Type 0) (xs : List X) → ((x : X) → P x → Q x) → AllByRecursion P xs → AllByRecursion Q xs
  each P Q [] gives all = tt
  each P Q (x ∷ xs) gives all = (gives x all.0, each P Q xs gives all.1)

  pub each_in_front : (P : X → Type 0) (front behind : List X) → AllByRecursion P (front ++ behind) → AllByRecursion P front
  each_in_front P [] behind all = tt
  each_in_front P (x ∷ xs) behind all = (all.0, each_in_front P xs behind all.1)

  pub each_behind : (P : X → Type 0) (front behind : List X) → AllByRecursion P (front ++ behind) → AllByRecursion P behind
  each_behind P [] behind all = all
  each_behind P (x ∷ xs) behind all = each_behind P xs behind all.1

  pub each_of_both : (P : X → Type 0) (front behind : List X) → AllByRecursion P front → AllByRecursion P behind → AllByRecursion P (front ++ behind)
  each_of_both P [] behind before all = all
  each_of_both P (x ∷ xs) behind before all = (before.0, each_of_both P xs behind before.1 all)

pub or_swap : (a b c : Bool) → (a || (b || c)) ≡ (b || (a || c))
or_swap true true c = refl
or_swap true false c = refl
or_swap false b c = refl
