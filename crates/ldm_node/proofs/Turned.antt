-- Lists that are taken apart from the end, and put together in order.
use Rattle.std.proofs.Common.{◌≡◌, List, [], ◌∷◌, ◌++◌, map, reverse, refl, ap, ◌∙◌}
use Rattle.std.proofs.lemmas.List.{reverse-append}
use Rattle.ldm_node.specs.declared.stop.NodeStop.{NodeStop}
use Rattle.ldm_node.specs.declared.stop.NodeStop.TheVariants.{Done, NetFault, LogFault, Worn, OutOfMemory}
use Rattle.ldm_node.specs.Stops.{first_stop, or_stop}

-- the last of a turned list is the next
pub turned : {X : Type 0} (xs : List X) (x : X) → reverse (xs ++ x ∷ []) ≡ x ∷ reverse xs
turned xs x = reverse-append xs (x ∷ [])

or_stop-assoc : (a b c : NodeStop) → or_stop a (or_stop b c) ≡ or_stop (or_stop a b) c
or_stop-assoc Done b c = refl
or_stop-assoc NetFault b c = refl
or_stop-assoc LogFault b c = refl
or_stop-assoc Worn b c = refl
or_stop-assoc OutOfMemory b c = refl

pub or_stop-done : (stop : NodeStop) → or_stop stop Done ≡ stop
or_stop-done Done = refl
or_stop-done NetFault = refl
or_stop-done LogFault = refl
or_stop-done Worn = refl
or_stop-done OutOfMemory = refl

-- the first stop, where one more is looked at
pub stop_turned : {X : Type 0} (f : X → NodeStop) (first : NodeStop) (xs : List X) (x : X)
    → or_stop first (first_stop (map f (reverse (xs ++ x ∷ [])))) ≡ or_stop (or_stop first (f x)) (first_stop (map f (reverse xs)))
stop_turned f first xs x = ap (λ ys. or_stop first (first_stop (map f ys))) (turned xs x) ∙ or_stop-assoc first (f x) (first_stop (map f (reverse xs)))
