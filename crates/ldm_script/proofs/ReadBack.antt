-- Fields that are read as what they were written for.
use Rattle.std.proofs.Common.{◌≡◌, ℕ, ◌*◌, ◌/◌, ◌<◌, List, [], ◌∷◌, length, codes, decimal, Some, None, Result, refl, sym, ap, ◌∙◌, arith}
use Rattle.std.proofs.lemmas.Bool.{cond-false}
use Rattle.std.proofs.lemmas.List.{append-nil}
use Rattle.std.specs.List.{list_any}
use Rattle.std.specs.Prelude.{◌==◌, bytes_eq}
use Rattle.std.specs.Option.{option_map}
use Rattle.std.specs.Result.{result_ok}
use Rattle.hex.specs.Hex.{IsBytes, encode_lower, lower_digits}
use Rattle.hex.proofs.HexLemmas.{length-encode_with, decode_sized-encode_lower}
use Rattle.hex.specs.declared.error.FromHexError.{FromHexError}
use Rattle.ldm_feedtype.specs.Text.{feed_digits}
use Rattle.ldm_feedtype.specs.Reading.{feed_number}
use Rattle.ldm_signature.specs.HexSignature.{hex_signature}
use Rattle.ldm_answers.specs.Number.{number_up_to}
use Rattle.ldm_answers.specs.Texts.{body_text}
use Rattle.ldm_script.specs.Bodies.{body_of, digits_of}
use Rattle.ldm_script.specs.Grammar.{place_or_last, signature_of, feed_of}
use Rattle.ldm_script.proofs.Solid.{list_any-lacks, lacks-feed_digits, lacks_star-encode_lower}
use Rattle.ldm_answers.proofs.ReadFields.{number_up_to-decimal, other_text}
use Rattle.ldm_script.proofs.Bodies.{digits_body}

-- ---- places of cursors and reservations

pub place_or_last-decimal : {A : Type 0} (last : A) (at : ℕ → A) (k : ℕ) → k < 64 → place_or_last last at (decimal k) ≡ Some (at k)
place_or_last-decimal last at k below =
    let is = number_up_to-decimal 63 k (omega arith) (omega arith) in
    cond-false (bytes_eq (decimal k) (codes ".")) (Some last) (option_map at (number_up_to 63 (decimal k))) (other_text (number_up_to 63) (decimal k) (codes ".") k is refl)
    ∙ ap (option_map at) is

-- ---- signatures

pub signature_of-digits : (signature : List ℕ) → hex_signature (encode_lower signature) ≡ Some signature → signature_of (encode_lower signature) ≡ Some (Some signature)
signature_of-digits signature is =
    cond-false (bytes_eq (encode_lower signature) (codes "md5")) (Some None) (option_map (λ s. Some s) (hex_signature (encode_lower signature)))
    (other_text hex_signature (encode_lower signature) (codes "md5") signature is refl)
    ∙ ap (option_map (λ s. Some s)) is

-- ---- feedtypes

pub feed_of-digits : (feed : ℕ) → feed_number (feed_digits feed) ≡ Some feed → feed_of (feed_digits feed) ≡ Some feed
feed_of-digits feed is =
    cond-false (list_any (λ byte. byte == 9) (feed_digits feed)) None (feed_number (feed_digits feed)) (list_any-lacks 9 (feed_digits feed) (lacks-feed_digits 9 feed (omega arith)))
    ∙ is

-- ---- bodies

pub body_of-body_text : (bytes : List ℕ) → IsBytes bytes → body_of (body_text bytes) ≡ Some bytes
body_of-body_text [] small = refl
body_of-body_text (byte ∷ bytes) small =
    let field = encode_lower (byte ∷ bytes) in
    let len : length field ≡ 2 * length (byte ∷ bytes) = length-encode_with lower_digits (byte ∷ bytes) in
    let read : digits_of field ≡ Some (byte ∷ bytes) =
    ap (λ (r : Result (List ℕ) FromHexError). result_ok r) (decode_sized-encode_lower (byte ∷ bytes) (length field / 2) (omega arith) small) in
    digits_body field field (λ none. omega arith) (other_text digits_of field (codes "-") (byte ∷ bytes) read refl)
    (record { lacks = lacks_star-encode_lower (byte ∷ bytes); whole = sym (append-nil field) })
    ∙ read
