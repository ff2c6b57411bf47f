-- What is shown has no control byte.
use Rattle.std.proofs.Common.{◌≡◌, ◌∙◌, ℕ, ◌++◌, if◌then◌else◌, Bool, true, false, List, [], ◌∷◌, map, refl}
use Rattle.std.specs.List.{list_any}
use Rattle.std.proofs.lemmas.List.Folds.{list_any-append}
use Rattle.ldm_outside.specs.Reason.{is_control}
use Rattle.ldm_outside.specs.Putting.{shown}

plain_by : (byte : ℕ) (control : Bool) → is_control byte ≡ control → is_control (if control then 63 else byte) ≡ false
plain_by byte true is = refl
plain_by byte false is = is

plain : (byte : ℕ) → is_control (shown byte) ≡ false
plain byte = plain_by byte (is_control byte) refl

pub plain_all : (text : List ℕ) → list_any is_control (map shown text) ≡ false
plain_all [] = refl
plain_all (byte ∷ text) = rw (plain byte) (plain_all text)

pub plain_joined : (before text : List ℕ) → list_any is_control before ≡ false → list_any is_control (before ++ map shown text) ≡ false
plain_joined before text is = list_any-append is_control before (map shown text) ∙ rw (is) (plain_all text)
