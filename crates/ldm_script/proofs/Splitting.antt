-- Texts cut at the first byte that is sought.
use Rattle.std.proofs.Common.{◌≡◌, ℕ, ◌+◌, ◌<◌, Bool, true, false, cond, List, [], ◌∷◌, ◌++◌, get_or, take, drop, Option, Some, None, refl, sym, ap, ◌∙◌, arith, eqb}
use Rattle.std.proofs.lemmas.Bool.{eqb-true, eq-eqb}
use Rattle.std.proofs.lemmas.List.{append-nil, take-append-drop, drop_more, get_or-take, length-take}
use Rattle.std.proofs.lemmas.List.Elements.{All-from_get_or, All-head, All-tail}
use Rattle.std.proofs.lemmas.List.Splits.{slice_split_none, slice_split_at}
use Rattle.memchr.specs.Find.{IsFirstByte, is_byte}
use Rattle.std.specs.List.{slice_split}
use Rattle.std.specs.Prelude.{◌==◌}
use Rattle.std.specs.Borrow.{Bor}
use Rattle.ldm_script.specs.Fields.{first_field, behind_field}
use Rattle.ldm_script.specs.FieldsView.{seen}
use Rattle.ldm_script.specs.Split.{Lacks, Cuts, with_behind}

not_true : (b : Bool) → (b ≡ true → ⊥) → b ≡ false
not_true true h = absurd (h refl)
not_true false h = refl

pub lacks-none : (c : ℕ) (text : List ℕ) → IsFirstByte (is_byte c) text None → Lacks c text
lacks-none c text h = All-from_get_or (λ x. (x == c) ≡ false) text 0 (λ i within. not_true (eqb (get_or text i 0) c) (h i (omega arith) within))

-- a text in which the byte is not found
pub cuts-none : (c : ℕ) (text : List ℕ) → IsFirstByte (is_byte c) text None → Cuts c text text None
cuts-none c text h = record { lacks = lacks-none c text h; whole = sym (append-nil text) }

-- a text, cut at its first byte that is sought
pub lacks-front : (c : ℕ) (text : List ℕ) (at : ℕ) → IsFirstByte (is_byte c) text (Some at) → Lacks c (take at text)
lacks-front c text at h =
    All-from_get_or (λ x. (x == c) ≡ false) (take at text) 0 (λ i below.
    let inside : i < at = omega (arith, length-take at text) in
    rw (get_or-take at text i 0 inside) (not_true (eqb (get_or text i 0) c) (h.0.before i (omega arith) inside)))

pub whole-some : (c : ℕ) (text : List ℕ) (at : ℕ) → IsFirstByte (is_byte c) text (Some at) → text ≡ take at text ++ c ∷ drop (at + 1) text
whole-some c text at h =
    let found : get_or text at 0 ≡ c = eqb-true (get_or text at 0) c h.1 in
    sym (ap (λ (ys : List ℕ). take at text ++ ys) (ap (λ (y : ℕ). y ∷ drop (at + 1) text) (sym found) ∙ sym (drop_more text at 0 h.0.high)) ∙ take-append-drop at text)

-- the first field of a text that begins with bytes that are no blank
pub first_field-front : (front tail : List ℕ) → Lacks 32 front → first_field (front ++ tail) ≡ front ++ first_field tail
first_field-front [] tail lacks = refl
first_field-front (byte ∷ bytes) tail lacks =
    ap (λ (b : Bool). cond b [] (byte ∷ first_field (bytes ++ tail))) (All-head (λ x. (x == 32) ≡ false) byte bytes lacks)
    ∙ ap (λ (xs : List ℕ). byte ∷ xs) (first_field-front bytes tail (All-tail (λ x. (x == 32) ≡ false) byte bytes lacks))

pub behind_field-front : (front tail : List ℕ) → Lacks 32 front → behind_field (front ++ tail) ≡ behind_field tail
behind_field-front [] tail lacks = refl
behind_field-front (byte ∷ bytes) tail lacks =
    ap (λ (b : Bool). cond b (Some (bytes ++ tail)) (behind_field (bytes ++ tail))) (All-head (λ x. (x == 32) ≡ false) byte bytes lacks)
    ∙ behind_field-front bytes tail (All-tail (λ x. (x == 32) ≡ false) byte bytes lacks)

-- the first field of a text that is cut at its first blank
first_field-cut : (front : List ℕ) (behind : Option (Bor (List ℕ))) → Lacks 32 front → first_field (front ++ with_behind 32 behind) ≡ front
first_field-cut front None lacks = first_field-front front [] lacks ∙ append-nil front
first_field-cut front (Some rest) lacks = first_field-front front (32 ∷ rest.now) lacks ∙ append-nil front

behind_field-cut : (front : List ℕ) (behind : Option (Bor (List ℕ))) → Lacks 32 front → behind_field (front ++ with_behind 32 behind) ≡ seen behind
behind_field-cut front None lacks = behind_field-front front [] lacks
behind_field-cut front (Some rest) lacks = behind_field-front front (32 ∷ rest.now) lacks

pub first_field-of : (text front : List ℕ) (behind : Option (Bor (List ℕ))) → Cuts 32 text front behind → front ≡ first_field text
first_field-of text front behind cuts = sym (ap first_field cuts.whole ∙ first_field-cut front behind cuts.lacks)

pub behind_field-of : (text front : List ℕ) (behind : Option (Bor (List ℕ))) → Cuts 32 text front behind → seen behind ≡ behind_field text
behind_field-of text front behind cuts = sym (ap behind_field cuts.whole ∙ behind_field-cut front behind cuts.lacks)

-- the parts of a text between a byte
pub parts-none : (c : ℕ) (text front : List ℕ) → Cuts c text front None → slice_split (λ b. b == c) text ≡ text ∷ []
parts-none c text front cuts =
    let same : text ≡ front = cuts.whole ∙ append-nil front in
    ap (slice_split (λ b. b == c)) same ∙ slice_split_none (λ b. b == c) front cuts.lacks ∙ ap (λ (t : List ℕ). t ∷ []) (sym same)

pub parts-some : (c : ℕ) (text front : List ℕ) (rest : Bor (List ℕ)) → Cuts c text front (Some rest) → slice_split (λ b. b == c) text ≡ front ∷ slice_split (λ b. b == c) rest.now
parts-some c text front rest cuts =
    ap (slice_split (λ b. b == c)) cuts.whole ∙ slice_split_at (λ b. b == c) front c rest.now cuts.lacks (eq-eqb c c refl)
