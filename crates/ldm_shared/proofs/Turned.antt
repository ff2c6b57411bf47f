-- Lists that are taken apart from the end.
use Rattle.std.proofs.Common.{◌≡◌, ℕ, ◌-◌, ◌<◌, List, [], ◌∷◌, ◌++◌, length, map, reverse, get_or, sym, ap, subst, ◌∙◌, append_assoc, arith}
use Rattle.std.proofs.lemmas.List.{reverse-append, length-reverse, get_or-reverse}

-- the last element of one list, seen so, is the next of another
pub turned : {X Y : Type 0} (f : X → Y) (front : List Y) (xs : List X) (x : X) → (front ++ f x ∷ []) ++ map f (reverse xs) ≡ front ++ map f (reverse (xs ++ x ∷ []))
turned f front xs x =
    append_assoc front (f x ∷ []) (map f (reverse xs)) ∙ ap (λ ys. front ++ map f ys) (sym (reverse-append xs (x ∷ [])))

-- two lists, seen from their ends
pub seen_from_end : {X : Type 0} (R : X → X → Type 0) (xs ys : List X) → length ys ≡ length xs → ((i : ℕ) (d : X) → i < length xs → R (get_or xs i d) (get_or ys i d))
    → (i : ℕ) (d : X) → i < length (reverse xs) → R (get_or (reverse xs) i d) (get_or (reverse ys) i d)
seen_from_end R xs ys same each i d less =
    let inside : i < length xs = omega (arith, length-reverse xs) in
    let at = length xs - 1 - i in
    subst (λ x. R x (get_or (reverse ys) i d)) (sym (get_or-reverse xs i d inside))
    (subst (λ y. R (get_or xs at d) y) (sym (get_or-reverse ys i d (omega arith) ∙ ap (λ (n : ℕ). get_or ys (n - 1 - i) d) same))
    (each at d (omega arith)))
