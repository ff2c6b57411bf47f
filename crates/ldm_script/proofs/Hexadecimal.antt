-- Bytes spelled by hexadecimal digits.
use Rattle.std.proofs.Common.{◌≡◌, ℕ, ◌+◌, ◌-◌, ◌*◌, ◌/◌, ◌%◌, ◌≤◌, true, false, List, [], ◌∷◌, ◌++◌, length, take, drop, Option, Some, None, unwrap_or, Result, Ok, Err, refl, sym, ap, ◌∙◌, arith, inl, inr}
use Rattle.std.proofs.lemmas.Bool.{cases_eq, and_parts, and_from}
use Rattle.std.proofs.lemmas.List.{append_assoc, append-nil, drop_all, drop-drop, take-append-drop, length-take-le, length-drop}
use Rattle.std.proofs.lemmas.List.Elements.{All-cons, All-head, All-nil, All-tail}
use Rattle.std.specs.List.{AllPass, list_all}
use Rattle.std.specs.Prelude.{IsSome}
use Rattle.std.specs.Result.{result_ok}
use Rattle.hex.specs.Hex.{decode_of, decode_pairs, decode_sized, digit_or_error, hex_digit_value, is_hex_digit, ◌>>=◌}
use Rattle.hex.specs.declared.error.FromHexError.{FromHexError}
use Rattle.hex.proofs.HexLemmas.{decode_of-even, decode_of-ok, decode_of-digits, decode_sized-twice, decode_sized-odd}
use Rattle.ldm_script.specs.Bodies.{digits_of}
use Rattle.ldm_answers.proofs.Unspelling.{ok_of}

-- ---- pairs of digits, without the place of a fault

abbrev pub cons_pair : Option ℕ → Option ℕ → Option (List ℕ) → Option (List ℕ)
cons_pair (Some high) (Some low) (Some rest) = Some ((high * 16 + low) ∷ rest)
cons_pair (Some high) (Some low) None = None
cons_pair (Some high) None rest = None
cons_pair None low rest = None

abbrev pub pairs : List ℕ → Option (List ℕ)
pairs [] = Some []
pairs (digit ∷ []) = None
pairs (high ∷ low ∷ rest) = cons_pair (hex_digit_value high) (hex_digit_value low) (pairs rest)

-- two parts, one behind the other
abbrev pub joined : Option (List ℕ) → Option (List ℕ) → Option (List ℕ)
joined (Some xs) (Some ys) = Some (xs ++ ys)
joined (Some xs) None = None
joined None ys = None

bind_pair : (a b i : ℕ) (x y : Option ℕ) (r : Result (List ℕ) FromHexError) (o : Option (List ℕ)) → result_ok r ≡ o
    → result_ok ((digit_or_error a i x >>= λ h. digit_or_error b (i + 1) y >>= λ l. Ok (h * 16 + l)) >>= λ byte. r >>= λ bytes. Ok (byte ∷ bytes)) ≡ cons_pair x y o
bind_pair a b i None y r o e = refl
bind_pair a b i (Some h) None r o e = refl
bind_pair a b i (Some h) (Some l) (Ok bytes) o e = ap (cons_pair (Some h) (Some l)) e
bind_pair a b i (Some h) (Some l) (Err fault) o e = ap (cons_pair (Some h) (Some l)) e

pairs_decoded : (i : ℕ) (s : List ℕ) → result_ok (decode_pairs i s) ≡ pairs s
unfolding decode_pairs
pairs_decoded i [] = refl
pairs_decoded i (digit ∷ []) = refl
pairs_decoded i (a ∷ b ∷ rest) = bind_pair a b i (hex_digit_value a) (hex_digit_value b) (decode_pairs (i + 2) rest) (pairs rest) (pairs_decoded (i + 2) rest)

pairs-odd : (s : List ℕ) → length s % 2 ≡ 1 → pairs s ≡ None
pairs-odd [] odd = absurd (omega arith)
pairs-odd (a ∷ []) odd = refl
pairs-odd (a ∷ b ∷ rest) odd = ap (cons_pair (hex_digit_value a) (hex_digit_value b)) (pairs-odd rest (omega arith)) ∙ nothing (hex_digit_value a) (hex_digit_value b)
  where
    nothing : (x y : Option ℕ) → cons_pair x y None ≡ None
    nothing None y = refl
    nothing (Some h) None = refl
    nothing (Some h) (Some l) = refl

pub digits_of-pairs : (s : List ℕ) → digits_of s ≡ pairs s
digits_of-pairs s =
    elim (cases_eq (length s % 2) 1) [
      | inl odd ↦ ap (λ (r : Result (List ℕ) FromHexError). result_ok r) (decode_sized-odd s (length s / 2) odd) ∙ sym (pairs-odd s odd)
      | inr even ↦
          let z : length s % 2 ≡ 0 = omega arith in
          ap (λ (r : Result (List ℕ) FromHexError). result_ok r) (decode_sized-twice s (length s / 2) (omega arith) ∙ decode_of-even s z) ∙ pairs_decoded 0 s
    ]

joined-pair : (x y : Option ℕ) (p q : Option (List ℕ)) → cons_pair x y (joined p q) ≡ joined (cons_pair x y p) q
joined-pair None y p q = refl
joined-pair (Some h) None p q = refl
joined-pair (Some h) (Some l) None q = refl
joined-pair (Some h) (Some l) (Some xs) None = refl
joined-pair (Some h) (Some l) (Some xs) (Some ys) = refl

joined-nil : (o : Option (List ℕ)) → o ≡ joined (Some []) o
joined-nil None = refl
joined-nil (Some xs) = refl

pairs-append : (a b : List ℕ) → length a % 2 ≡ 0 → pairs (a ++ b) ≡ joined (pairs a) (pairs b)
pairs-append [] b even = joined-nil (pairs b)
pairs-append (x ∷ []) b even = absurd (omega arith)
pairs-append (x ∷ y ∷ rest) b even =
    ap (cons_pair (hex_digit_value x) (hex_digit_value y)) (pairs-append rest b (omega arith))
    ∙ joined-pair (hex_digit_value x) (hex_digit_value y) (pairs rest) (pairs b)

-- the digits of an even number of digits and more behind them
pub digits_of-append : (a b : List ℕ) → length a % 2 ≡ 0 → digits_of (a ++ b) ≡ joined (digits_of a) (digits_of b)
digits_of-append a b even =
    digits_of-pairs (a ++ b) ∙ pairs-append a b even ∙ ap (λ (o : Option (List ℕ)). joined o (pairs b)) (sym (digits_of-pairs a))
    ∙ ap (joined (digits_of a)) (sym (digits_of-pairs b))

pub joined-assoc : (p q r : Option (List ℕ)) → joined p (joined q r) ≡ joined (joined p q) r
joined-assoc None q r = refl
joined-assoc (Some xs) None r = refl
joined-assoc (Some xs) (Some ys) None = refl
joined-assoc (Some xs) (Some ys) (Some zs) = ap (λ (l : List ℕ). Some l) (sym (append_assoc xs ys zs))

-- ---- which texts are digits, and how many

pub some_bytes : (o : Option (List ℕ)) → IsSome o → o ≡ Some (unwrap_or o [])
some_bytes (Some bytes) some = refl
some_bytes None some = cc some

pub even_digits : (s : List ℕ) → IsSome (digits_of s) → length s % 2 ≡ 0
even_digits s some =
    elim (cases_eq (length s % 2) 1) [
      | inl odd ↦ cc (some, ap (λ (r : Result (List ℕ) FromHexError). result_ok r) (decode_sized-odd s (length s / 2) odd))
      | inr even ↦ omega arith
    ]

pub decoded : (s : List ℕ) → IsSome (digits_of s) → decode_of s ≡ Ok (unwrap_or (digits_of s) [])
decoded s some =
    let even = even_digits s some in
    sym (decode_sized-twice s (length s / 2) (omega arith)) ∙ ok_of (decode_sized s (length s / 2)) (unwrap_or (digits_of s) []) (some_bytes (digits_of s) some)

pub length-digits_of : (s : List ℕ) → IsSome (digits_of s) → length s ≡ 2 * length (unwrap_or (digits_of s) [])
length-digits_of s some = (decode_of-ok s (unwrap_or (digits_of s) []) (decoded s some)).2

pub AllPass-from : (s : List ℕ) → list_all is_hex_digit s ≡ true → AllPass is_hex_digit s
AllPass-from [] e = All-nil (λ c. is_hex_digit c ≡ true)
AllPass-from (c ∷ s) e =
    let parts = and_parts (is_hex_digit c) (list_all is_hex_digit s) e in
    All-cons (λ c. is_hex_digit c ≡ true) c s parts.0 (AllPass-from s parts.1)

list_all-from : (s : List ℕ) → AllPass is_hex_digit s → list_all is_hex_digit s ≡ true
list_all-from [] h = refl
list_all-from (c ∷ s) h =
    and_from (is_hex_digit c) (list_all is_hex_digit s) (All-head (λ c. is_hex_digit c ≡ true) c s h) (list_all-from s (All-tail (λ c. is_hex_digit c ≡ true) c s h))

pub digits_of-yes : (s : List ℕ) → length s % 2 ≡ 0 → list_all is_hex_digit s ≡ true → IsSome (digits_of s)
digits_of-yes s even all =
    let found = decode_of-digits s even (AllPass-from s all) in
    let is : digits_of s ≡ Some found.0 = ap (λ (r : Result (List ℕ) FromHexError). result_ok r) (decode_sized-twice s (length s / 2) (omega arith) ∙ found.1) in
    rw is refl

pub digits_of-odd : (s : List ℕ) → length s % 2 ≡ 1 → digits_of s ≡ None
digits_of-odd s odd = ap (λ (r : Result (List ℕ) FromHexError). result_ok r) (decode_sized-odd s (length s / 2) odd)

none_of : (o : Option (List ℕ)) → (IsSome o → ⊥) → o ≡ None
none_of None never = refl
none_of (Some bytes) never = absurd (never refl)

pub digits_of-no : (s : List ℕ) → list_all is_hex_digit s ≡ false → digits_of s ≡ None
digits_of-no s other = none_of (digits_of s) (λ some. cc (other, list_all-from s (decode_of-ok s (unwrap_or (digits_of s) []) (decoded s some)).1))

-- ---- digits that are read piece by piece

cut_at : (d : List ℕ) (at end : ℕ) → at ≤ end → drop at d ≡ take (end - at) (drop at d) ++ drop end d
cut_at d at end le =
    sym (take-append-drop (end - at) (drop at d))
    ∙ ap (λ (l : List ℕ). take (end - at) (drop at d) ++ l) (drop-drop (end - at) at d ∙ ap (λ (k : ℕ). drop k d) (let e : at + (end - at) ≡ end = omega arith in e))

pub piece_digits : (d : List ℕ) (at end : ℕ) → at ≤ end → end ≤ length d → (end - at) % 2 ≡ 0 → digits_of (drop at d) ≡ joined (digits_of (take (end - at) (drop at d))) (digits_of (drop end d))
piece_digits d at end le within even =
    let size : length (take (end - at) (drop at d)) ≡ end - at = length-take-le (end - at) (drop at d) (omega (arith, length-drop at d)) in
    ap digits_of (cut_at d at end le) ∙ digits_of-append (take (end - at) (drop at d)) (drop end d) (ap (λ (n : ℕ). n % 2) size ∙ even)

first_some : (done : List ℕ) (p q o : Option (List ℕ)) → joined (Some done) (joined p q) ≡ o → IsSome o → IsSome p
first_some done None q o e some = cc (sym e, some)
first_some done (Some x) q o e some = refl

pub piece_some : (d done : List ℕ) (at end : ℕ) → at ≤ end → end ≤ length d → (end - at) % 2 ≡ 0 → joined (Some done) (digits_of (drop at d)) ≡ digits_of d
    → IsSome (digits_of d) → IsSome (digits_of (take (end - at) (drop at d)))
piece_some d done at end le within even so_far some =
    first_some done (digits_of (take (end - at) (drop at d))) (digits_of (drop end d)) (digits_of d) (ap (joined (Some done)) (sym (piece_digits d at end le within even)) ∙ so_far) some

pub one_piece : (d done x : List ℕ) (at end : ℕ) → at ≤ end → end ≤ length d → (end - at) % 2 ≡ 0 → Some x ≡ digits_of (take (end - at) (drop at d))
    → joined (Some done) (digits_of (drop at d)) ≡ digits_of d
    → joined (Some (done ++ x)) (digits_of (drop end d)) ≡ digits_of d
one_piece d done x at end le within even is so_far =
    sym (joined-assoc (Some done) (Some x) (digits_of (drop end d)))
    ∙ ap (λ (o : Option (List ℕ)). joined (Some done) (joined o (digits_of (drop end d)))) is
    ∙ ap (joined (Some done)) (sym (piece_digits d at end le within even)) ∙ so_far

pub digits_of-nil : digits_of [] ≡ Some []
digits_of-nil = digits_of-pairs []

pub all_pieces : (d done : List ℕ) (at : ℕ) → length d ≤ at → joined (Some done) (digits_of (drop at d)) ≡ digits_of d → digits_of d ≡ Some done
all_pieces d done at end so_far =
    sym so_far ∙ ap (λ (l : List ℕ). joined (Some done) (digits_of l)) (drop_all at d end) ∙ ap (joined (Some done)) digits_of-nil ∙ ap (λ (l : List ℕ). Some l) (append-nil done)
