-- Classes of products: which products a site wants, and behind which product it goes on.
use Rattle.std.specs.Prelude.{ℕ, Bool, ◌==◌, ◌&&◌, not, List, [], ◌∷◌, drop, Option, None, is_some, is_none, if◌then◌else◌, codes, nat_eq}
use Rattle.std.specs.List.{list_any, starts_with, position_from}
use Rattle.std.specs.Option.{option_or}
use Rattle.ldm_types.specs.Feed.{feeds_meet}
use Rattle.ldm_types.specs.Info.{Metadata}
use Rattle.ldm_types.specs.declared.class.ClassSpec.{ClassSpec}
use Rattle.ldm_types.specs.declared.class.Spec.{Spec}
use Rattle.ldm_signature.specs.HexSignature.{hex_signature}
use Rattle.ldm_pattern.specs.Patterns.{pattern_meaning, found}

-- the bytes of a specification's pattern
abbrev pub pattern_of : Spec → List ℕ
pattern_of spec = spec.pattern.items

-- The signature that a specification names as the product to go on behind, in this project's profile: its feedtypes
-- are the empty set, and its pattern is `SIG=` and 32 hexadecimal digits of either case.
abbrev pub signature_in : Spec → Option (List ℕ)
signature_in spec =
    if (spec.feed.0 == 0) && starts_with nat_eq (pattern_of spec) (codes "SIG=") then hex_signature (drop 4 (pattern_of spec)) else None

-- whether a specification names such a signature, and so is no pattern
abbrev pub is_resumption : Spec → Bool
is_resumption spec = is_some (signature_in spec)

-- the signature of the first specification that names one
abbrev pub resumed : List Spec → Option (List ℕ)
resumed [] = None
resumed (spec ∷ specs) = option_or (signature_in spec) (resumed specs)

-- whether a specification wants a product: their feedtypes meet, and the pattern is found in the ident
abbrev pub spec_wants : Metadata → Spec → Bool
spec_wants info spec = feeds_meet spec.feed.0 info.feed && found (pattern_of spec) info.ident

-- whether a class wants a product: one of its specifications does
abbrev pub wants : ClassSpec → Metadata → Bool
wants class info = list_any (spec_wants info) class.specs.items

-- whether a specification has a pattern that means nothing
abbrev pub is_bad : Spec → Bool
is_bad spec = not (is_resumption spec) && is_none (pattern_meaning (pattern_of spec))

-- the place, from 0, of the first specification with a pattern that means nothing
abbrev pub bad_place : List Spec → Option ℕ
bad_place specs = position_from is_bad 0 specs
