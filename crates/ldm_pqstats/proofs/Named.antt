-- The texts of the metadata of an hour have no fault.
use Rattle.std.proofs.Common.{◌≡◌, ◌∙◌, ℕ, ◌+◌, ◌<◌, ◌/◌, ◌%◌, ◌==◌, false, cond, List, [], ◌∷◌, ◌++◌, length, codes, Some, None, refl, ap, arith, length-append, nat_lt, zero, suc}
use Rattle.std.specs.List.{position, position_from}
use Rattle.std.proofs.lemmas.Bool.{ne_eqb}
use Rattle.std.proofs.lemmas.Bool.Decides.{nat_tests}
use Rattle.std.proofs.lemmas.Iterator.Adapters.{position_from-zero}
use Rattle.ldm_types.specs.Info.{texts_fault}
use Rattle.ldm_pqact_match.specs.Dates.{date_of_day}
use Rattle.ldm_pqact_match.specs.Substitution.{last_digits}
use Rattle.ldm_stats.specs.Report.{date_text, hour_text}
use Rattle.ldm_pqstats.specs.Sending.{ident_of}

abbrev pub ArePositive : List ℕ → Type 0
ArePositive [] = Unit {0}
ArePositive (x ∷ xs) = (0 < x) × ArePositive xs

positive_append : (xs ys : List ℕ) → ArePositive xs → ArePositive ys → ArePositive (xs ++ ys)
positive_append [] ys one two = two
positive_append (x ∷ xs) ys one two = (one.0, positive_append xs ys one.1 two)

positive_digits : (count number : ℕ) → ArePositive (last_digits count number)
unfolding last_digits
positive_digits zero number = tt
positive_digits (suc count) number = positive_append (last_digits count (number / 10)) ((48 + number % 10) ∷ []) (positive_digits count (number / 10)) (omega arith, tt)

digits_length : (count number : ℕ) → length (last_digits count number) ≡ count
unfolding last_digits
digits_length zero number = refl
digits_length (suc count) number =
    let last : length ((48 + number % 10) ∷ []) ≡ 1 = refl in
    let both = length-append (last_digits count (number / 10)) ((48 + number % 10) ∷ []) in
    let first = digits_length count (number / 10) in
    omega (arith, both, first, last)

none_from : (i : ℕ) (xs : List ℕ) → ArePositive xs → position_from (λ byte. byte == 0) i xs ≡ None
none_from i [] are = refl
none_from i (x ∷ xs) are =
    let some = are.0 in
    let ne : x ≡ 0 → ⊥ = λ e. absurd (omega (arith, some, e)) in
    ap (λ b. cond b (Some i) (position_from (λ byte. byte == 0) (i + 1) xs)) (ne_eqb x 0 ne) ∙ none_from (i + 1) xs are.1

none_nul : (xs : List ℕ) → ArePositive xs → position (λ byte. byte == 0) xs ≡ None
none_nul xs are = position_from-zero (λ byte. byte == 0) xs ∙ none_from 0 xs are

text_positive : (hour : ℕ) → ArePositive (hour_text hour)
text_positive hour =
    let date = date_of_day (hour / 24) in
    positive_append (date_text date) (last_digits 2 (hour % 24))
    (positive_append (last_digits 4 date.year ++ last_digits 2 date.month) (last_digits 2 date.day)
    (positive_append (last_digits 4 date.year) (last_digits 2 date.month) (positive_digits 4 date.year) (positive_digits 2 date.month)) (positive_digits 2 date.day))
    (positive_digits 2 (hour % 24))

text_length : (hour : ℕ) → length (hour_text hour) ≡ 10
text_length hour =
    let date = date_of_day (hour / 24) in
    let all = length-append (date_text date) (last_digits 2 (hour % 24)) in
    let front = length-append (last_digits 4 date.year ++ last_digits 2 date.month) (last_digits 2 date.day) in
    let back = length-append (last_digits 4 date.year) (last_digits 2 date.month) in
    let year = digits_length 4 date.year in
    let month = digits_length 2 date.month in
    let day = digits_length 2 date.day in
    let at = digits_length 2 (hour % 24) in
    omega (arith, all, front, back, year, month, day, at)

origin_positive : ArePositive (codes "localhost")
origin_positive = (omega arith, (omega arith, (omega arith, (omega arith, (omega arith, (omega arith, (omega arith, (omega arith, (omega arith, tt)))))))))

front_positive : ArePositive (codes "stats/")
front_positive = (omega arith, (omega arith, (omega arith, (omega arith, (omega arith, (omega arith, tt))))))

pub ident_length : (hour : ℕ) → length (ident_of hour) ≡ 16
ident_length hour =
    let front : length (codes "stats/") ≡ 6 = refl in
    let both = length-append (codes "stats/") (hour_text hour) in
    let text = text_length hour in
    omega (arith, front, both, text)

pub named : (hour : ℕ) → texts_fault (codes "localhost") (ident_of hour) ≡ None
named hour =
    let none = none_nul (codes "localhost" ++ ident_of hour)
    (positive_append (codes "localhost") (ident_of hour) origin_positive (positive_append (codes "stats/") (hour_text hour) front_positive (text_positive hour))) in
    let len = ident_length hour in
    let short : nat_lt 255 (length (ident_of hour)) ≡ false = grind (arith, nat_tests, len) in
    rw (short, none) refl
