-- An entry is refused as `NoDate` exactly where a form asks for a date of what is no day.
use Rattle.std.proofs.Common.{◌≡◌, ℕ, suc, length, ◌+◌, ◌-◌, ◌*◌, ◌≤◌, Bool, true, false, not, List, [], ◌∷◌, Option, Some, None, Result, Ok, Err, refl, sym, ap, ◌∙◌, arith, inl, inr, ◌⊎◌}
use Rattle.std.specs.Prelude.{◌==◌, nat_lt, ◌&&◌, ◌||◌, nat_le, is_some, position, unwrap_or, if◌then◌else◌}
use Rattle.std.specs.List.{find, flat_map}
use Rattle.std.specs.Char.{is_ascii_digit}
use Rattle.std.specs.Option.{ok_or, option_and_then, option_map, option_or}
use Rattle.std.specs.Str.{is_utf8}
use Rattle.std.proofs.lemmas.Bool.Decides.{nat_tests}
use Rattle.std.proofs.lemmas.List.Folds.{find-append}
use Rattle.ldm_types.specs.Info.{Metadata}
use Rattle.ldm_pqact_conf.specs.Entries.{EntryView}
use Rattle.ldm_pqact_match.specs.declared.forms.Piece.{Piece}
use Rattle.ldm_pqact_match.specs.declared.forms.Piece.TheVariants.{Byte, Group, Date, Mark as MarkPiece}
use Rattle.ldm_pqact_match.specs.declared.chosen.Decision.{Decision}
use Rattle.ldm_pqact_match.specs.Dates.{CivilDate, distance, date_in, day_in, length_of, month_of, nearer, nearest}
use Rattle.ldm_pqact_match.specs.Forms.{pieces_of}
use Rattle.ldm_pqact_match.specs.Substitution.{Meanings, date_said, day_said, group_text, in_front, part_text, piece_text, pieces_text, possible_day, words_text}
use Rattle.ldm_pqact_match.specs.Choice.{decision_by, decision_for, meanings_for, unless_bad}
use Rattle.ldm_pqact_match.specs.Days.{asked_by, first_no_day, groups_asked, is_day, number_said, refused_group}

-- the group that stops it
abbrev stopped_by : {A : Type 0} → Result A ℕ → Option ℕ
stopped_by (Ok x) = None
stopped_by (Err group) = Some group

abbrev is_bad : List (Option (List ℕ)) → ℕ → Bool
is_bad groups group = not (is_day (group_text groups group))

-- ---- which texts say a day

some_of_if : {A : Type 0} (b : Bool) (x : A) → is_some (if b then Some x else None) ≡ b
some_of_if true x = refl
some_of_if false x = refl

and_one : (b : Bool) → b && true ≡ b
and_one true = refl
and_one false = refl

one_digit : (a : Bool) (value said : ℕ) → said ≡ value → is_some (if a then possible_day value else None) ≡ ((a && true) && (nat_le 1 said && nat_le said 31))
one_digit true value said e = rw e (some_of_if (nat_le 1 value && nat_le value 31) value)
one_digit false value said e = refl

two_digits : (a b : Bool) (value said : ℕ) → said ≡ value →
    is_some (if a && b then possible_day value else None) ≡ ((a && (b && true)) && (nat_le 1 said && nat_le said 31))
two_digits true true value said e = rw e (some_of_if (nat_le 1 value && nat_le value 31) value)
two_digits true false value said e = refl
two_digits false b value said e = refl

too_long : (more : ℕ) → ((suc (suc (suc more)) == 1) || (suc (suc (suc more)) == 2)) ≡ false
too_long more = grind (arith, nat_tests)

says_day : (text : List ℕ) → is_some (day_said text) ≡ is_day text
says_day [] = refl
says_day (digit ∷ []) = one_digit (is_ascii_digit digit) (digit - 48) (number_said (digit ∷ [])) (omega arith)
says_day (tens ∷ digit ∷ []) =
    two_digits (is_ascii_digit tens) (is_ascii_digit digit) (10 * (tens - 48) + (digit - 48)) (number_said (tens ∷ digit ∷ [])) (omega arith)
says_day (a ∷ b ∷ c ∷ rest) = rw (too_long (length rest)) refl

-- ---- a month near has that day

either_is_some : {A : Type 0} (b : Bool) (x y : A) → is_some (if b then Some x else Some y) ≡ true
either_is_some true x y = refl
either_is_some false x y = refl

some_nearer : (today : CivilDate) (first second : Option CivilDate) → is_some (nearer today first second) ≡ (is_some first || is_some second)
some_nearer today None second = refl
some_nearer today (Some date) None = refl
some_nearer today (Some date) (Some later) = either_is_some (nat_lt (distance today later) (distance today date)) later date

-- of two months in turn one has 31 days
long_month : (month : ℕ) → (length_of month ≡ 31) ⊎ (length_of (month + 1) ≡ 31)
long_month month = grind (arith, nat_tests)

test_of : (a b : ℕ) → a ≤ b → nat_le a b ≡ true
test_of a b h = grind (arith, nat_tests)

some_day_in : (day month : ℕ) → nat_le 1 day && nat_le day 31 ≡ true → length_of month ≡ 31 → is_some (day_in day month) ≡ true
some_day_in day month fits long = some_of_if _ (date_in month day) ∙ rw long fits

one_is : (a b c : Bool) → (b ≡ true) ⊎ (c ≡ true) → (a || (b || (c || false))) ≡ true
one_is true b c h = refl
one_is false true c h = refl
one_is false false true h = refl
one_is false false false (inl h) = h
one_is false false false (inr h) = h

some_nearest : (today : CivilDate) (day : ℕ) → nat_le 1 day && nat_le day 31 ≡ true → is_some (nearest today day) ≡ true
some_nearest today day fits =
    let month = month_of today in
    let before = day_in day (month - 1) in
    let this = day_in day month in
    let next = day_in day (month + 1) in
    some_nearer today before (nearer today this (nearer today next None))
    ∙ ap (λ b. is_some before || b) (some_nearer today this (nearer today next None) ∙ ap (λ b. is_some this || b) (some_nearer today next None))
    ∙ one_is (is_some before) (is_some this) (is_some next)
    (elim (long_month month) [ inl long ↦ inl (some_day_in day month fits long) | inr long ↦ inr (some_day_in day (month + 1) fits long) ])

possible : (value day : ℕ) (fits : Bool) → fits ≡ (nat_le 1 value && nat_le value 31) → (if fits then Some value else None) ≡ Some day → nat_le 1 day && nat_le day 31 ≡ true
possible value day true is e = let same : value ≡ day = ap (λ o. unwrap_or o 0) e in rw (← same) (sym is)
possible value day false is e = absurd cc

possible_if : (a : Bool) (value day : ℕ) → (if a then possible_day value else None) ≡ Some day → nat_le 1 day && nat_le day 31 ≡ true
possible_if true value day e = possible value day _ refl e
possible_if false value day e = absurd cc

-- the number that a text says is a possible day
possible_said : (text : List ℕ) (day : ℕ) → day_said text ≡ Some day → nat_le 1 day && nat_le day 31 ≡ true
possible_said [] day e = absurd cc
possible_said (digit ∷ []) day e = possible_if (is_ascii_digit digit) (digit - 48) day e
possible_said (tens ∷ digit ∷ []) day e = possible_if (is_ascii_digit tens && is_ascii_digit digit) (10 * (tens - 48) + (digit - 48)) day e
possible_said (a ∷ b ∷ c ∷ rest) day e = absurd cc

some_date_by : (today : CivilDate) (text : List ℕ) (said : Option ℕ) → day_said text ≡ said → is_some (option_and_then (nearest today) said) ≡ is_day text
some_date_by today text None e = sym (ap is_some e) ∙ says_day text
some_date_by today text (Some day) e = some_nearest today day (possible_said text day e) ∙ sym (ap is_some e) ∙ says_day text

some_date : (today : CivilDate) (text : List ℕ) → is_some (date_said today text) ≡ is_day text
some_date today text = some_date_by today text (day_said text) refl

-- ---- what stops pieces and words

bad_or_not : {A : Type 0} (f : CivilDate → A) (date : Option CivilDate) (day : Bool) (group : ℕ) → is_some date ≡ day →
    stopped_by (ok_or (option_map f date) group) ≡ (if not day then Some group else None)
bad_or_not f None day group e = rw (← e) refl
bad_or_not f (Some date) day group e = rw (← e) refl

piece_stopped : (meanings : Meanings) (piece : Piece) → stopped_by (piece_text meanings piece) ≡ find (is_bad meanings.groups) (asked_by piece)
piece_stopped meanings (Byte byte) = refl
piece_stopped meanings (Group group) = refl
piece_stopped meanings (MarkPiece mark) = refl
piece_stopped meanings (Date group part) =
    let text = group_text meanings.groups group in
    bad_or_not (λ date. part_text date meanings.inserted.hour part) (date_said meanings.inserted.date text) (is_day text) group
    (some_date meanings.inserted.date text)

stopped_in_front : {A B : Type 0} (join : A → B → B) (first : Result A ℕ) (later : Result B ℕ) →
    stopped_by (in_front join first later) ≡ option_or (stopped_by first) (stopped_by later)
stopped_in_front join (Err group) later = refl
stopped_in_front join (Ok x) (Err group) = refl
stopped_in_front join (Ok x) (Ok y) = refl

pieces_stopped : (meanings : Meanings) (pieces : List Piece) → stopped_by (pieces_text meanings pieces) ≡ find (is_bad meanings.groups) (flat_map asked_by pieces)
unfolding pieces_text
pieces_stopped meanings [] = refl
pieces_stopped meanings (piece ∷ pieces) =
    stopped_in_front _ (piece_text meanings piece) (pieces_text meanings pieces)
    ∙ rw (piece_stopped meanings piece, pieces_stopped meanings pieces)
    (sym (find-append (is_bad meanings.groups) (asked_by piece) (flat_map asked_by pieces)))

words_stopped : (meanings : Meanings) (words : List (List ℕ)) → stopped_by (words_text meanings words) ≡ find (is_bad meanings.groups) (groups_asked words)
unfolding words_text
words_stopped meanings [] = refl
words_stopped meanings (word ∷ words) =
    stopped_in_front _ (pieces_text meanings (pieces_of word)) (words_text meanings words)
    ∙ rw (pieces_stopped meanings (pieces_of word), words_stopped meanings words)
    (sym (find-append (is_bad meanings.groups) (flat_map asked_by (pieces_of word)) (groups_asked words)))

-- ---- what an entry does

never_refused : (place : Option ℕ) (decision : Decision) → refused_group decision ≡ None → refused_group (unless_bad place decision) ≡ None
never_refused None decision e = e
never_refused (Some place) decision e = refl

refused_where_stopped : (entry : EntryView) (words : Result (List (List ℕ)) ℕ) → refused_group (decision_by entry words) ≡ stopped_by words
refused_where_stopped entry (Err group) = refl
refused_where_stopped entry (Ok words) = never_refused (position (λ word. not (is_utf8 word)) words) _ refl

pub refused : (info : Metadata) (time : ℕ) (entry : EntryView) → refused_group (decision_for info time entry) ≡ first_no_day info entry
unfolding decision_for
refused info time entry =
    refused_where_stopped entry (words_text (meanings_for info time entry) entry.words) ∙ words_stopped (meanings_for info time entry) entry.words
