-- The classes of a chain, as its words say them and as it asks for them.
use Rattle.std.proofs.Common.{◌≡◌, ◌⊎◌, ◌||◌, ℕ, Bool, true, List, [], ◌∷◌, Option, None, Some, is_none, inl, inr, refl}
use Rattle.std.specs.List.{AllByRecursion, list_all}
use Rattle.ldm_types.specs.declared.class.ClassSpec.{ClassSpec}
use Rattle.ldm_class.specs.Classes.{is_resumption, resumed}
use Rattle.ldm_chain.specs.Queues.{IsForAllTimes}
use Rattle.ldm_words.specs.Values.{IsOfAllTimes}

by_names : (named : Option (List ℕ)) (alone : Bool) → (is_none named || alone) ≡ true → (named ≡ None) ⊎ (alone ≡ true)
by_names None alone is = inl refl
by_names (Some signature) alone is = inr is

one_for_all_times : (class : ClassSpec) → IsOfAllTimes class → IsForAllTimes class
one_for_all_times class of = record {
  from = of.0;
  names = by_names (resumed class.specs.items) (list_all is_resumption class.specs.items) of.1;
}

pub for_all_times : (classes : List ClassSpec) → AllByRecursion IsOfAllTimes classes → AllByRecursion IsForAllTimes classes
for_all_times [] all = tt
for_all_times (class ∷ classes) all = (one_for_all_times class all.0, for_all_times classes all.1)
