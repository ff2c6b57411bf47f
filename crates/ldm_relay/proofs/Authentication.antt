-- A credential or verifier that proves nothing is read again, whatever follows it.
use Rattle.std.proofs.Common.{◌≡◌, ℕ, List, ◌++◌, length, Ok, ap, ◌∙◌, refl, append_assoc, arith, lit<, lit≤}
use Rattle.std.proofs.lemmas.Bool.{le-ltb}
use Rattle.ldm_xdr.specs.Fields.{passed_in}
use Rattle.ldm_xdr.specs.Spelling.{unsigned}
use Rattle.ldm_xdr.proofs.FieldsAgain.{up_to_again, exactly_again}
use Rattle.ldm_relay.specs.Headers.{authentication_in}
use Rattle.ldm_relay.specs.Spelling.{no_authentication}

pub authentication_again : (rest : List ℕ) → authentication_in (no_authentication ++ rest) ≡ Ok rest
unfolding authentication_in passed_in no_authentication
authentication_again rest =
    ap authentication_in (append_assoc (unsigned 0) (unsigned 0) rest)
    ∙ rw (exactly_again 0 (unsigned 0 ++ rest) (lit< tt), up_to_again 400 0 rest (lit< tt) (lit≤ tt), le-ltb (length rest) 0 (omega arith)) refl
