-- The lengths of fields as they are spelled.
use Rattle.std.proofs.Common.{◌≡◌, ℕ, ◌+◌, ◌-◌, List, length, refl, ◌∙◌, arith}
use Rattle.std.specs.Prelude.{replicate}
use Rattle.std.specs.Int.{w32, w64}
use Rattle.std.proofs.lemmas.List.{length-append, length-replicate}
use Rattle.ldm_types.specs.Info.{pad4}
use Rattle.ldm_xdr.specs.Spelling.{number, unsigned, padded, opaque}

pub length_unsigned : (n : ℕ) → length (number w32 n) ≡ 4
unfolding number
length_unsigned n = refl

pub length_hyper : (n : ℕ) → length (number w64 n) ≡ 8
unfolding number
length_hyper n = refl

pub length_padded : (bytes : List ℕ) → length (padded bytes) ≡ pad4 (length bytes)
length_padded bytes =
    length-append bytes (replicate (pad4 (length bytes) - length bytes) 0)
    ∙ omega (arith, length-replicate {A = ℕ} (pad4 (length bytes) - length bytes) 0)

pub length_opaque : (bytes : List ℕ) → length (opaque bytes) ≡ 4 + pad4 (length bytes)
unfolding opaque
length_opaque bytes = length-append (unsigned (length bytes)) (padded bytes) ∙ omega (arith, length_unsigned (length bytes), length_padded bytes)
