-- Writing one field behind another where there is room for both.
use Rattle.std.proofs.Common.{ℕ, ◌<◌, List, ◌++◌, length, get_or, take, ap, ◌∙◌, append_assoc, arith}
use Rattle.std.specs.Global.{Vec}
use Rattle.std.specs.List.{flat_map}
use Rattle.std.proofs.lemmas.List.{length-append}
use Rattle.std.proofs.lemmas.List.Folds.{length-flat_map-take}
use Rattle.ldm_relay.specs.Appends.{HasRoom, Appends}

pub room_first : (out : Vec ℕ) (x y : List ℕ) → HasRoom out (x ++ y) → HasRoom out x
room_first out x y room = omega (arith, length-append x y)

pub room_behind : (old new : Vec ℕ) (x y : List ℕ) → HasRoom old (x ++ y) → Appends old new x → HasRoom new y
room_behind old new x y room first = omega (arith, length-append x y, first.len, first.capacity)

pub both_append : (a b c : Vec ℕ) (x y : List ℕ) → Appends a b x → Appends b c y → Appends a c (x ++ y)
both_append a b c x y first second = record {
  items = second.items ∙ ap (λ (z : List ℕ). z ++ y) first.items ∙ append_assoc a.items x y;
  len = omega (arith, length-append x y, first.len, second.len);
  capacity = omega (arith, first.capacity, second.capacity);
}

pub ruleset appending = (room_first, room_behind, both_append)

-- room for one more of several
pub room_for_one : {X : Type 0} (old new : Vec ℕ) (f : X → List ℕ) (xs : List X) (i : ℕ) (x : X) → i < length xs → HasRoom old (flat_map f xs)
    → Appends old new (flat_map f (take i xs)) → HasRoom new (f (get_or xs i x))
room_for_one old new f xs i x lt room so_far = omega (arith, length-flat_map-take f xs i x lt, so_far.len, so_far.capacity)
