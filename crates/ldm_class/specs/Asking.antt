-- What a receiver asks for, and whether two classes are the same.
use Rattle.std.specs.Prelude.{ℕ, Bool, ◌==◌, ◌&&◌, nat_lt, List, [], ◌∷◌, ◌++◌, length, codes, bytes_eq, Option, Some, None, if◌then◌else◌}
use Rattle.std.specs.List.{list_all, zip}
use Rattle.hex.specs.Hex.{encode_lower}
use Rattle.ldm_types.specs.declared.limits.TheConstants.{MOST_SPECS}
use Rattle.ldm_types.specs.declared.class.ClassSpec.{ClassSpec}
use Rattle.ldm_types.specs.declared.class.Spec.{Spec}

-- the specification that names a product to go on behind: feed NONE, and `SIG=` with the 32 digits of its signature
abbrev pub resuming : List ℕ → Spec
resuming signature = record { feed = record { 0 = 0 }; pattern = record { items = codes "SIG=" ++ encode_lower signature } }

-- The class that is asked for: with the specification of the last product at its end, where there is one and there is room.
abbrev pub asked_class : ClassSpec → Option (List ℕ) → ClassSpec
asked_class class None = class
asked_class class (Some signature) =
    if nat_lt (length class.specs.items) MOST_SPECS
    then record class { specs = record { items = class.specs.items ++ resuming signature ∷ [] } }
    else class

-- whether two specifications have the same feedtypes and the same pattern
abbrev pub same_spec : Spec → Spec → Bool
same_spec one other = (one.feed.0 == other.feed.0) && bytes_eq one.pattern.items other.pattern.items

abbrev pub same_specs : List Spec → List Spec → Bool
same_specs ones others = (length ones == length others) && list_all (λ pair. same_spec pair.0 pair.1) (zip ones others)

-- whether two classes are the same
abbrev pub same_class : ClassSpec → ClassSpec → Bool
same_class one other = (one.from == other.from) && (one.to == other.to) && same_specs one.specs.items other.specs.items
