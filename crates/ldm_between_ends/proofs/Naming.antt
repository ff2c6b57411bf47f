-- A class names the product that a receiver asks behind.
use Rattle.std.proofs.Common.{◌≡◌, ◌∙◌, ℕ, zero, suc, ◌<◌, List, [], ◌∷◌, ◌++◌, length, Option, Some, None, refl, ap, arith}
use Rattle.std.specs.Option.{option_or}
use Rattle.std.proofs.lemmas.Bool.{lt-ltb, cond-true}
use Rattle.std.proofs.lemmas.List.Elements.{All-head, All-tail}
use Rattle.hex.specs.Hex.{IsBytes, encode_lower}
use Rattle.ldm_types.specs.Info.{AreBytes, IsSignature}
use Rattle.ldm_types.specs.declared.class.ClassSpec.{ClassSpec}
use Rattle.ldm_types.specs.declared.class.Spec.{Spec}
use Rattle.ldm_types.specs.declared.limits.TheConstants.{MOST_SPECS}
use Rattle.ldm_signature.specs.HexSignature.{hex_signature}
use Rattle.ldm_class.specs.Classes.{resumed, signature_in}
use Rattle.ldm_class.specs.Asking.{asked_class, resuming}
use Rattle.ldm_between_ends.specs.Following.{CanName}

-- what is written of a signature is read
abbrev pub ReadsLaw : Type 0
ReadsLaw = (bytes : List ℕ) → length bytes ≡ 16 → IsBytes bytes → hex_signature (encode_lower bytes) ≡ Some bytes

are-bytes : (bytes : List ℕ) → AreBytes bytes → IsBytes bytes
are-bytes [] all i = omega arith
are-bytes (byte ∷ bytes) all zero = All-head (λ (b : ℕ). b < 256) byte bytes all
are-bytes (byte ∷ bytes) all (suc i) = are-bytes bytes (All-tail (λ (b : ℕ). b < 256) byte bytes all) i

none-first : (one other : Option (List ℕ)) → option_or one other ≡ None → (one ≡ None) × (other ≡ None)
none-first None other is = (refl, is)
none-first (Some signature) other is = absurd (cc is)

-- the one that is named behind specifications that name none
named-last : (specs : List Spec) (spec : Spec) (signature : List ℕ) → resumed specs ≡ None → signature_in spec ≡ Some signature
    → resumed (specs ++ spec ∷ []) ≡ Some signature
named-last [] spec signature none named = ap (λ (one : Option (List ℕ)). option_or one None) named
named-last (other ∷ specs) spec signature none named =
    let parts = none-first (signature_in other) (resumed specs) none in
    ap (λ (one : Option (List ℕ)). option_or one (resumed (specs ++ spec ∷ []))) parts.0 ∙ named-last specs spec signature parts.1 named

spelled : (signature : List ℕ) → signature_in (resuming signature) ≡ hex_signature (encode_lower signature)
spelled signature = refl

pub names : ReadsLaw → (class : ClassSpec) → CanName class → (signature : List ℕ) → IsSignature signature
    → resumed (asked_class class (Some signature)).specs.items ≡ Some signature
names reads class can signature is =
    let asked = record class { specs = record { items = class.specs.items ++ resuming signature ∷ [] } } in
    let room = lt-ltb (length class.specs.items) MOST_SPECS can.room in
    ap (λ (c : ClassSpec). resumed c.specs.items) (cond-true _ asked class room)
    ∙ named-last class.specs.items (resuming signature) signature can.names_none (spelled signature ∙ reads signature is.0 (are-bytes signature is.1))
