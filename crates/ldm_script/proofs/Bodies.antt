-- Bodies that fields spell.
use Rattle.std.proofs.Common.{◌≡◌, ℕ, ◌+◌, ◌/◌, ◌%◌, ◌≤◌, Bool, true, false, cond, List, [], ◌∷◌, ◌++◌, length, take, drop, replicate, codes, unwrap_or, Option, Some, None, refl, sym, ap, subst, ◌∙◌, arith}
use Rattle.std.proofs.lemmas.List.{append-nil, length-replicate, take-replicate, replicate-append-replicate}
use Rattle.std.proofs.lemmas.List.Splits.{length-slice_split}
use Rattle.std.proofs.lemmas.Slice.Eq.{bytes_eq-Decides}
use Rattle.std.specs.Borrow.{Bor}
use Rattle.std.specs.List.{list_all, slice_split}
use Rattle.std.specs.Prelude.{◌==◌, bytes_eq, is_some}
use Rattle.std.specs.Result.{result_ok}
use Rattle.hex.specs.Hex.{decode_sized, is_hex_digit}
use Rattle.ldm_script.specs.declared.body.Body.{Body}
use Rattle.ldm_script.specs.declared.body.Body.TheVariants.{Hex, Fill}
use Rattle.ldm_script.specs.declared.body.TheConstants.{LONGEST_BODY}
use Rattle.ldm_script.specs.Bodies.{digits_of, filled, body_of, body_of_parts}
use Rattle.ldm_answers.specs.Number.{number_up_to}
use Rattle.ldm_script.specs.OrderView.{IsBody, bytes_of}
use Rattle.ldm_script.specs.Split.{Cuts}
use Rattle.ldm_script.proofs.Hexadecimal.{length-digits_of, digits_of-nil, digits_of-yes}
use Rattle.ldm_script.proofs.Splitting.{parts-none, parts-some}

pub hex_size : (body : Body) (digits : Bor (List ℕ)) → body ≡ Hex digits → IsBody body → length digits.now / 2 ≡ length (bytes_of body)
hex_size body digits is whole =
    let P : Body → Type 0 = λ b. IsBody b → length digits.now / 2 ≡ length (bytes_of b) in
    subst P (sym is) (λ w. let twice = length-digits_of digits.now w.0 in omega arith) whole

pub body_small : (body : Body) → IsBody body → length (bytes_of body) ≤ LONGEST_BODY
body_small (Hex digits) read = let twice = length-digits_of digits.now read.0 in omega (arith, read.1)
body_small (Fill count byte) read = let count = length-replicate count byte in omega arith

-- how many bytes a text spells
pub len-digits : (digits : List ℕ) → length digits % 2 ≡ 0 → list_all is_hex_digit digits ≡ true → length digits / 2 ≡ length (unwrap_or (digits_of digits) [])
len-digits digits even all = let twice = length-digits_of digits (digits_of-yes digits even all) in omega arith

pub len-no_digits : (digits : List ℕ) → digits_of digits ≡ None → 0 ≡ length (unwrap_or (digits_of digits) [])
len-no_digits digits none = sym (ap (λ (o : Option (List ℕ)). length (unwrap_or o [])) none)

-- a block of equal bytes more
pub more_fill : (k part byte : ℕ) → part ≤ 256 → replicate k byte ++ take part (replicate 256 byte) ≡ replicate (k + part) byte
more_fill k part byte le = ap (λ (l : List ℕ). replicate k byte ++ l) (take-replicate part 256 byte le) ∙ replicate-append-replicate k part byte

-- `-`
dash : (field : List ℕ) → bytes_eq field (codes "-") ≡ true → field ≡ codes "-"
dash field is = (bytes_eq-Decides field (codes "-")).0 is

pub dash_some : (field : List ℕ) → bytes_eq field (codes "-") ≡ true → digits_of (drop 1 field) ≡ Some []
dash_some field is = ap (λ (l : List ℕ). digits_of (drop 1 l)) (dash field is) ∙ digits_of-nil

pub dash_body : (field : List ℕ) → bytes_eq field (codes "-") ≡ true → body_of field ≡ Some []
dash_body field is = ap body_of (dash field is)

-- the parts at `*`
pub by_parts : (field : List ℕ) → (length field ≡ 0 → ⊥) → bytes_eq field (codes "-") ≡ false → body_of field ≡ body_of_parts (slice_split (λ b. b == 42) field)
by_parts [] some other = absurd (some refl)
by_parts (byte ∷ bytes) some other = ap (λ (b : Bool). cond b (Some []) (body_of_parts (slice_split (λ b. b == 42) (byte ∷ bytes)))) other

pub digits_body : (field front : List ℕ) → (length field ≡ 0 → ⊥) → bytes_eq field (codes "-") ≡ false → Cuts 42 field front None → body_of field ≡ digits_of field
digits_body field front some other cuts = by_parts field some other ∙ ap body_of_parts (parts-none 42 field front cuts)

pub fill_body : (field front byte : List ℕ) (behind : Bor (List ℕ)) (others : Option (Bor (List ℕ))) → (length field ≡ 0 → ⊥) → bytes_eq field (codes "-") ≡ false
    → Cuts 42 field front (Some behind) → Cuts 42 behind.now byte others → is_some others ≡ false
    → body_of field ≡ filled (number_up_to LONGEST_BODY front) (result_ok (decode_sized byte 1))
fill_body field front byte behind None some other cuts last none =
    by_parts field some other
    ∙ ap body_of_parts (parts-some 42 field front behind cuts ∙ ap (λ (ps : List (List ℕ)). front ∷ ps) (parts-none 42 behind.now byte last))
    ∙ ap (λ (l : List ℕ). filled (number_up_to LONGEST_BODY front) (result_ok (decode_sized l 1))) (last.whole ∙ append-nil byte)
fill_body field front byte behind (Some rest) some other cuts last none = cc none

three : (count byte : List ℕ) (more : List (List ℕ)) → (length more ≡ 0 → ⊥) → body_of_parts (count ∷ byte ∷ more) ≡ None
three count byte [] some = absurd (some refl)
three count byte (part ∷ parts) some = refl

pub no_body : (field front byte : List ℕ) (behind : Bor (List ℕ)) (others : Option (Bor (List ℕ))) → (length field ≡ 0 → ⊥) → bytes_eq field (codes "-") ≡ false
    → Cuts 42 field front (Some behind) → Cuts 42 behind.now byte others → is_some others ≡ true → body_of field ≡ None
no_body field front byte behind None some other cuts last more = cc more
no_body field front byte behind (Some rest) some other cuts last more =
    by_parts field some other
    ∙ ap body_of_parts (parts-some 42 field front behind cuts ∙ ap (λ (ps : List (List ℕ)). front ∷ ps) (parts-some 42 behind.now byte rest last))
    ∙ three front byte (slice_split (λ b. b == 42) rest.now) (λ e. let count = length-slice_split (λ b. b == 42) rest.now in omega arith)
