-- What holds of all of a list, by recursion on it, and what is found in one.
use Rattle.std.proofs.Common.{◌≡◌, zero, suc, Bool, true, false, cond, List, [], ◌∷◌, ◌++◌, map, Option, Some, refl, subst, arith}
use Rattle.std.specs.Prelude.{filter}
use Rattle.std.specs.List.{AllByRecursion, Contains, find}
use Rattle.std.specs.Option.{IfSome, option_map}

-- what holds of all holds of those that pass a test
pub every_filter : {X : Type 0} (P : X → Type 0) (test : X → Bool) (xs : List X) → AllByRecursion P xs → AllByRecursion P (filter test xs)
every_filter P test [] all = tt
every_filter P test (x ∷ xs) all = by_test (test x) (every_filter P test xs all.1)
  where
    by_test : (b : Bool) → AllByRecursion P (filter test xs) → AllByRecursion P (cond b (x ∷ filter test xs) (filter test xs))
    by_test true rest = (all.0, rest)
    by_test false rest = rest

-- and of one more of which it holds
pub every_push : {X : Type 0} (P : X → Type 0) (xs : List X) (x : X) → AllByRecursion P xs → P x → AllByRecursion P (xs ++ x ∷ [])
every_push P [] x all last = (last, tt)
every_push P (first ∷ xs) x all last = (all.0, every_push P xs x all.1 last)

-- and of the first that passes a test
pub every_found : {X : Type 0} (P : X → Type 0) (test : X → Bool) (xs : List X) → AllByRecursion P xs → IfSome (find test xs) P
every_found P test [] all = tt
every_found P test (x ∷ xs) all = by_test (test x) (every_found P test xs all.1)
  where
    by_test : (b : Bool) → IfSome (find test xs) P → IfSome (cond b (Some x) (find test xs)) P
    by_test true rest = all.0
    by_test false rest = rest

pub found_of : {X : Type 0} (P : X → Type 0) (test : X → Bool) (xs : List X) (x : X) → AllByRecursion P xs → find test xs ≡ Some x → P x
found_of {X} P test xs x all is = subst (λ (o : Option X). IfSome o P) is (every_found P test xs all)

-- what is found among images
pub find-map : {X Y : Type 0} (f : X → Y) (test : Y → Bool) (xs : List X) → find test (map f xs) ≡ option_map f (find (λ x. test (f x)) xs)
find-map f test [] = refl
find-map f test (x ∷ xs) = by_test (test (f x)) (find-map f test xs)
  where
    by_test : (b : Bool) → find test (map f xs) ≡ option_map f (find (λ x. test (f x)) xs) → cond b (Some (f x)) (find test (map f xs)) ≡ option_map f (cond b (Some x) (find (λ x. test (f x)) xs))
    by_test true rest = refl
    by_test false rest = rest

-- and what holds of all holds of one of them
pub every_one : {X : Type 0} (P : X → Type 0) (xs : List X) (x : X) → AllByRecursion P xs → Contains xs x → P x
every_one P [] x all (i, h, is) = absurd (omega arith)
every_one P (y ∷ ys) x all (zero, h, is) = subst P is all.0
every_one P (y ∷ ys) x all (suc i, h, is) = every_one P ys x all.1 (i, omega arith, is)
