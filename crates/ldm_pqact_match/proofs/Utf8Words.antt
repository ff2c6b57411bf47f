-- Which word is the first that is no UTF-8.
use Rattle.std.proofs.Common.{◌≡◌, ℕ, Bool, true, false, not, List, [], ◌∷◌, ◌++◌, length, map, Some, None, IsUtf8, refl, sym, ap, ◌∙◌, arith, length-append, append-nil, append_assoc}
use Rattle.std.specs.Prelude.{nat_lt, position, ◌&&◌}
use Rattle.std.specs.List.{list_all, position_or_len}
use Rattle.std.specs.Str.{is_utf8}
use Rattle.std.proofs.lemmas.Bool.Decides.{nat_tests}
use Rattle.std.proofs.lemmas.List.{map-append}
use Rattle.std.proofs.lemmas.List.Folds.{list_all-append}
use Rattle.std.proofs.lemmas.Str.{IsUtf8-from_is_utf8}

abbrev is_bad : List ℕ → Bool
is_bad word = not (is_utf8 word)

both : (a b : Bool) → a && b ≡ true → (a ≡ true) × (b ≡ true)
both true b e = (refl, e)
both false b e = absurd cc

place_of_bad : (words : List (List ℕ)) (bad : List ℕ) (rest : List (List ℕ)) → list_all is_utf8 words ≡ true → is_utf8 bad ≡ false →
    position_or_len is_bad (words ++ bad ∷ rest) ≡ length words
place_of_bad [] bad rest good is = rw is refl
place_of_bad (word ∷ words) bad rest good is =
    let parts = both (is_utf8 word) (list_all is_utf8 words) good in
    rw parts.0 (let later = place_of_bad words bad rest parts.1 is in omega (arith, later))

none_bad : (words : List (List ℕ)) → list_all is_utf8 words ≡ true → position_or_len is_bad words ≡ length words
none_bad [] good = refl
none_bad (word ∷ words) good =
    let parts = both (is_utf8 word) (list_all is_utf8 words) good in
    rw parts.0 (let later = none_bad words parts.1 in omega (arith, later))

-- the first word that is no UTF-8, behind those that are
pub first_bad : (words : List (List ℕ)) (bad : List ℕ) (rest : List (List ℕ)) → list_all is_utf8 words ≡ true → is_utf8 bad ≡ false →
    position is_bad (words ++ bad ∷ rest) ≡ Some (length words)
first_bad words bad rest good is =
    let inside : nat_lt (length words) (length (words ++ bad ∷ rest)) ≡ true = (let long = length-append words (bad ∷ rest) in grind (arith, nat_tests)) in
    rw (place_of_bad words bad rest good is, inside) refl

-- there is none where all are UTF-8
pub no_bad : (words : List (List ℕ)) → list_all is_utf8 words ≡ true → position is_bad words ≡ None
no_bad words good =
    let outside : nat_lt (length words) (length words) ≡ false = grind (arith, nat_tests) in
    rw (none_bad words good, outside) refl

-- one word more
pub one_more : (words : List (List ℕ)) (word : List ℕ) → list_all is_utf8 words ≡ true → is_utf8 word ≡ true → list_all is_utf8 (words ++ word ∷ []) ≡ true
one_more words word good is = list_all-append is_utf8 words (word ∷ []) ∙ rw (good, is) refl

-- the test of bytes that are no text
pub test_of_no_text : (bytes : List ℕ) → ¬ (IsUtf8 bytes) → is_utf8 bytes ≡ false
test_of_no_text bytes h =
    elim (is_utf8 bytes) as (λ b. (b ≡ true → IsUtf8 bytes) → b ≡ false)
    [ true ↦ λ is. absurd (h (is refl)) | false ↦ λ _. refl ] (IsUtf8-from_is_utf8 bytes)

none_left : (words : List (List ℕ)) → length words ≡ 0 → words ≡ []
none_left [] e = refl
none_left (word ∷ words) e = absurd (omega arith)

-- where no word is left, those that stand are all
pub all_taken : (words rest all : List (List ℕ)) → words ++ rest ≡ all → length rest ≡ 0 → all ≡ words
all_taken words rest all e none = sym e ∙ rw (none_left rest none) (append-nil words)

-- one word more was taken, which is that text
pub taken : {A : Type 0} (f : A → List ℕ) (words new : List A) (word : A) (text : List ℕ) (rest all : List (List ℕ)) → new ≡ words ++ word ∷ [] →
    f word ≡ text → map f words ++ text ∷ rest ≡ all → list_all is_utf8 (map f words) ≡ true → is_utf8 text ≡ true →
    (map f new ++ rest ≡ all) × (list_all is_utf8 (map f new) ≡ true)
taken f words new word text rest all pushed same so_far good is =
    let now : map f new ≡ map f words ++ text ∷ [] = ap (map f) pushed ∙ map-append f words (word ∷ []) ∙ rw same refl in
    rw now (append_assoc (map f words) (text ∷ []) rest ∙ so_far, one_more (map f words) text good is)
