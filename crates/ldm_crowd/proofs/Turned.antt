-- Lists that are taken apart from the end, and put together in order.
use Rattle.std.proofs.Common.{◌≡◌, List, [], ◌∷◌, ◌++◌, map, reverse, refl, sym, ap, ◌∙◌, append_assoc}
use Rattle.std.proofs.lemmas.List.{reverse-append, map_push}
use Rattle.ldm_crowd.specs.declared.outcome.CrowdEnd.{CrowdEnd}
use Rattle.ldm_crowd.specs.declared.outcome.CrowdEnd.TheVariants as crowd_end
use Rattle.ldm_crowd.specs.Ends.{first_end, or_end}

-- the last of a turned list is the next that is put
pub put_next : {X Y : Type 0} (f : X → Y) (xs : List X) (x : X) (ys : List Y) → map f (xs ++ x ∷ []) ++ reverse ys ≡ map f xs ++ reverse (ys ++ f x ∷ [])
put_next f xs x ys =
    ap (λ zs. zs ++ reverse ys) (map_push f xs x) ∙ append_assoc (map f xs) (f x ∷ []) (reverse ys)
    ∙ ap (λ zs. map f xs ++ zs) (sym (reverse-append ys (f x ∷ [])))

-- the last of a turned list is the next that is taken
pub take_next : {X Y : Type 0} (f : X → Y) (front : List Y) (xs : List X) (x : X) → (front ++ f x ∷ []) ++ map f (reverse xs) ≡ front ++ map f (reverse (xs ++ x ∷ []))
take_next f front xs x =
    append_assoc front (f x ∷ []) (map f (reverse xs)) ∙ ap (λ ys. front ++ map f ys) (sym (reverse-append xs (x ∷ [])))

or_end-assoc : (a b c : CrowdEnd) → or_end a (or_end b c) ≡ or_end (or_end a b) c
or_end-assoc crowd_end.Done b c = refl
or_end-assoc crowd_end.Stopped b c = refl
or_end-assoc crowd_end.Worn b c = refl
or_end-assoc crowd_end.OutOfMemory b c = refl

pub or_end-done : (end : CrowdEnd) → or_end end crowd_end.Done ≡ end
or_end-done crowd_end.Done = refl
or_end-done crowd_end.Stopped = refl
or_end-done crowd_end.Worn = refl
or_end-done crowd_end.OutOfMemory = refl

-- the end of the first, where one more is looked at
pub end_turned : {X : Type 0} (end_of : X → CrowdEnd) (first : CrowdEnd) (xs : List X) (x : X)
    → or_end first (first_end (map end_of (reverse (xs ++ x ∷ [])))) ≡ or_end (or_end first (end_of x)) (first_end (map end_of (reverse xs)))
end_turned end_of first xs x =
    ap (λ ys. or_end first (first_end (map end_of ys))) (reverse-append xs (x ∷ [])) ∙ or_end-assoc first (end_of x) (first_end (map end_of (reverse xs)))
