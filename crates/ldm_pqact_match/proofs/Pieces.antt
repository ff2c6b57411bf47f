-- Pieces of a word.
use Rattle.std.proofs.Common.{◌≡◌, ℕ, zero, suc, ◌-◌, ◌≤◌, List, [], ◌∷◌, length, drop, get_or, Some, None, refl, arith}
use Rattle.ldm_pqact_match.specs.declared.forms.Form.{Form}
use Rattle.ldm_pqact_match.specs.declared.forms.Piece.TheVariants.{Byte}
use Rattle.ldm_pqact_match.specs.Forms.{form_at, front, pieces_behind, pieces_of}
use Rattle.ldm_pqact_match.specs.Reading.{HasFront}

-- bytes that belong to the piece before are left out
pieces_left : (taken : ℕ) (text : List ℕ) → pieces_behind taken text ≡ pieces_of (drop taken text)
unfolding pieces_behind
pieces_left zero [] = refl
pieces_left (suc taken) [] = refl
pieces_left zero (byte ∷ bytes) = refl
pieces_left (suc taken) (byte ∷ bytes) = pieces_left taken bytes

drop_one_less : (n byte : ℕ) (bytes : List ℕ) → 1 ≤ n → drop n (byte ∷ bytes) ≡ drop (n - 1) bytes
drop_one_less zero byte bytes h = absurd (omega arith)
drop_one_less (suc n) byte bytes h = let less : suc n - 1 ≡ n = omega arith in rw less refl

split_front : (byte : ℕ) (bytes : List ℕ) (form : Form) → front byte bytes ≡ form → 1 ≤ form.length →
    pieces_of (byte ∷ bytes) ≡ form.piece ∷ pieces_of (drop form.length (byte ∷ bytes))
unfolding pieces_behind
split_front byte bytes form e takes =
    rw (e, drop_one_less form.length byte bytes takes, ← pieces_left (form.length - 1) bytes) refl

-- a form that a text begins with is its front
pub form_in_front : (text : List ℕ) (form : Form) → 1 ≤ length text → form_at text ≡ Some form → 1 ≤ form.length → form.length ≤ length text →
    HasFront text form
form_in_front [] form some e takes inside = absurd (omega arith)
form_in_front (byte ∷ bytes) form some e takes inside =
    record { pieces = split_front byte bytes form (rw e refl) takes; takes = takes; inside = inside }

-- without one, the first byte is
pub byte_in_front : (text : List ℕ) → 1 ≤ length text → form_at text ≡ None → HasFront text (record { piece = Byte (get_or text 0 0); length = 1 })
byte_in_front [] some e = absurd (omega arith)
byte_in_front (byte ∷ bytes) some e =
    let form : Form = record { piece = Byte byte; length = 1 } in
    record { pieces = split_front byte bytes form (rw e refl) (omega arith); takes = omega arith; inside = omega arith }
