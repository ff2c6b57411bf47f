-- The names of a set of feedtypes are read back as the set.
use Rattle.std.proofs.Common.{◌≡◌, ◌⊎◌, ℕ, zero, suc, ◌+◌, ◌*◌, ◌/◌, ◌%◌, ◌^◌, ◌<◌, ◌≤◌, ◌&&◌, Bool, true, false, eqb, cond, List, [], ◌∷◌, ◌++◌, length, take, drop, Option, Some, None, is_some, Result, Ok, inl, inr, refl, sym, ap, subst, ◌∙◌, arith, add-one}
use Rattle.std.specs.Borrow.{Bor}
use Rattle.std.specs.Int.{bit_at}
use Rattle.std.specs.List.{list_all}
use Rattle.std.specs.Option.{option_copied, option_map}
use Rattle.std.specs.Prelude.{bit_and, bit_or, nat_le, unwrap_or, IfSome}
use Rattle.std.specs.Result.{result_ok}
use Rattle.std.proofs.lemmas.Bool.{cases_Bool, cases_lt, cond-true, cond-false, eqb-true, eqb-false}
use Rattle.std.proofs.lemmas.Bool.Decides.{nat_tests}
use Rattle.std.proofs.lemmas.Nat.{mod-pow-add, pow_pos}
use Rattle.std.proofs.lemmas.Nat.Bits.{and_pow, bit_at-lt, bit_at_above, shr_and_one}
use Rattle.std.specs.Int.Bits.{or_add_and}
use Rattle.ldm_feedtype.specs.declared.fault.FeedFault.{FeedFault}
use Rattle.ldm_feedtype.specs.declared.reader.TheConstants.{MOST_OPEN}
use Rattle.ldm_feedtype.specs.FeedSets.{FeedSet, number_of, set_of, union}
use Rattle.ldm_feedtype.specs.Grammar.{Spells, Term, Expression, value, single, joined}
use Rattle.ldm_feedtype.specs.Names.{feed_names}
use Rattle.ldm_feedtype.specs.Parts.{Part, Word, Mark, begins_in_word, is_blank, is_word_byte, longer, parts, word_length}
use Rattle.ldm_feedtype.specs.Reading.{Wanted, whole, and_then, feed_number, feed_set, reading, valued}
use Rattle.ldm_feedtype.specs.Words.{word_value}
use Rattle.ldm_feedtype.proofs.Rules.{reading-spells}
use Rattle.ldm_feedtype.proofs.Sets.{number_of-set_of, set_of-or}
use Rattle.ldm_feedtype.proofs.Texts.{parts-word}
use Rattle.ldm_watch.specs.FeedNames.{feeds_text, first_named, listed, member_name, members_text}

-- ---- the table

-- a name is one word, which means these feedtypes
abbrev pub IsWord : List ℕ → ℕ → Type 0
IsWord name set = (at : ℕ) → (parts at name ≡ Word at name ∷ []) × (word_value at name ≡ Ok set)

abbrev AreWords : List (List ℕ × ℕ) → Type 0
AreWords [] = Unit {0}
AreWords (row ∷ rows) = IsWord row.0 row.1 × AreWords rows

table-words : AreWords feed_names
unfolding feed_names
table-words = (λ at. (refl, refl), (λ at. (refl, refl), (λ at. (refl, refl), (λ at. (refl, refl), (λ at. (refl, refl), (λ at. (refl, refl), (λ at. (refl, refl), (λ at. (refl, refl), (λ at. (refl, refl), (λ at. (refl, refl), (λ at. (refl, refl), (λ at. (refl, refl), (λ at. (refl, refl), (λ at. (refl, refl), (λ at. (refl, refl), (λ at. (refl, refl), (λ at. (refl, refl), (λ at. (refl, refl), (λ at. (refl, refl), (λ at. (refl, refl), (λ at. (refl, refl), (λ at. (refl, refl), (λ at. (refl, refl), (λ at. (refl, refl), (λ at. (refl, refl), (λ at. (refl, refl), (λ at. (refl, refl), (λ at. (refl, refl), (λ at. (refl, refl), (λ at. (refl, refl), (λ at. (refl, refl), (λ at. (refl, refl), (λ at. (refl, refl), (λ at. (refl, refl), (λ at. (refl, refl), (λ at. (refl, refl), (λ at. (refl, refl), (λ at. (refl, refl), (λ at. (refl, refl), (λ at. (refl, refl), (λ at. (refl, refl), (λ at. (refl, refl), (λ at. (refl, refl), (λ at. (refl, refl), (λ at. (refl, refl), (λ at. (refl, refl), (λ at. (refl, refl), (λ at. (refl, refl), tt))))))))))))))))))))))))))))))))))))))))))))))))

found-word : (rows : List (List ℕ × ℕ)) → AreWords rows → (set : ℕ) (name : List ℕ) → first_named rows set ≡ Some name → IsWord name set
found-word [] all set name is = absurd (cc is)
found-word (row ∷ rows) all set name is = elim (cases_Bool (eqb row.1 set)) [
  | inl same ↦
      let first : Some row.0 ≡ Some name = sym (cond-true (eqb row.1 set) (Some row.0) (first_named rows set) same) ∙ is in
      let name_is : row.0 ≡ name = cc first in
      let P : List ℕ → Type 0 = λ text. IsWord text row.1 in
      let Q : ℕ → Type 0 = λ n. IsWord name n in
      subst Q (eqb-true row.1 set same) (subst P name_is all.0)
  | inr other ↦ found-word rows all.1 set name (sym (cond-false (eqb row.1 set) (Some row.0) (first_named rows set) other) ∙ is)
]

abbrev is_short : List ℕ × ℕ → Bool
is_short row = nat_le (length row.0) 8

both : (a b : Bool) → (a && b) ≡ true → (a ≡ true) × (b ≡ true)
both true b is = (refl, is)
both false b is = cc

found-short : (rows : List (List ℕ × ℕ)) → list_all is_short rows ≡ true → (set : ℕ) (name : List ℕ) → first_named rows set ≡ Some name → length name ≤ 8
found-short [] all set name is = absurd (cc is)
found-short (row ∷ rows) all set name is =
    let each = both (is_short row) (list_all is_short rows) all in
    elim (cases_Bool (eqb row.1 set)) [
      | inl same ↦
          let first : Some row.0 ≡ Some name = sym (cond-true (eqb row.1 set) (Some row.0) (first_named rows set) same) ∙ is in
          let name_is : row.0 ≡ name = cc first in
          let test : nat_le (length row.0) 8 ≡ true = each.0 in
          let few : length row.0 ≤ 8 = grind (arith, nat_tests) in
          subst (λ (text : List ℕ). length text ≤ 8) name_is few
      | inr other ↦ found-short rows each.1 set name (sym (cond-false (eqb row.1 set) (Some row.0) (first_named rows set) other) ∙ is)
    ]

table-short : list_all is_short feed_names ≡ true
unfolding feed_names
table-short = refl

pub short-name : (found : Option (Bor (List ℕ))) (set : ℕ) → option_copied found ≡ first_named feed_names set → IfSome found (λ name. length name.now ≤ 8)
short-name None set is = tt
short-name (Some name) set is = found-short feed_names table-short set name.now (sym is)

all_below : ℕ → (ℕ → Bool) → Bool
all_below zero test = true
all_below (suc n) test = all_below n test && test n

each-below : (n : ℕ) (test : ℕ → Bool) → all_below n test ≡ true → (k : ℕ) → k < n → test k ≡ true
unfolding all_below
each-below zero test all k h = absurd (omega arith)
each-below (suc n) test all k h =
    let each = both (all_below n test) (test n) all in
    elim (cases_lt k n) [
      | inl less ↦ each-below n test each.0 k less
      | inr most ↦ (let last : n ≡ k = omega arith in subst (λ (m : ℕ). test m ≡ true) last each.1)
    ]

abbrev has_name : ℕ → Bool
has_name bit = is_some (first_named feed_names (2 ^ bit))

all-named : all_below 32 has_name ≡ true
unfolding all_below feed_names
all-named = refl

-- each feedtype has a name
pub some-name : (bit : ℕ) → bit < 32 → is_some (first_named feed_names (2 ^ bit)) ≡ true
some-name bit h = each-below 32 has_name all-named bit h

-- `1 << bit`
abbrev is_power : ℕ → Bool
is_power bit = eqb (1 * 2 ^ bit % 4294967296) (2 ^ bit)

all-powers : all_below 32 is_power ≡ true
unfolding all_below
all-powers = refl

power-of : (bit : ℕ) → bit < 32 → 1 * 2 ^ bit % 4294967296 ≡ 2 ^ bit
power-of bit h = eqb-true (1 * 2 ^ bit % 4294967296) (2 ^ bit) (each-below 32 is_power all-powers bit h)

pub no-name : (bit : ℕ) → bit < 32 → (found : Option (Bor (List ℕ))) → option_copied found ≡ first_named feed_names (1 * 2 ^ bit % 4294967296) → found ≡ None → ⊥
no-name bit h found is none =
    let same : None ≡ first_named feed_names (2 ^ bit) = ap option_copied (sym none) ∙ is ∙ ap (first_named feed_names) (power-of bit h) in
    let some : is_some {T = List ℕ} None ≡ true = ap is_some same ∙ some-name bit h in
    cc some

member-word : (bit : ℕ) → bit < 32 → IsWord (member_name bit) (2 ^ bit)
member-word bit h = go (first_named feed_names (2 ^ bit)) refl (some-name bit h)
  where
    go : (found : Option (List ℕ)) → first_named feed_names (2 ^ bit) ≡ found → is_some found ≡ true → IsWord (unwrap_or found []) (2 ^ bit)
    go None is some = absurd (cc some)
    go (Some name) is some = found-word feed_names table-words (2 ^ bit) name is

-- ---- the parts of a text with a `|` in it

-- a `|` at that place, and the parts behind it
abbrev bar : ℕ → List ℕ → List Part
bar at more = Mark at 124 ∷ parts (at + 1) more

same-begin : (rest more : List ℕ) → begins_in_word (rest ++ 124 ∷ more) ≡ begins_in_word rest
same-begin [] more = refl
same-begin (byte ∷ rest) more = refl

longer-front : (at byte : ℕ) (rest : List ℕ) (behind : List Part) → begins_in_word rest ≡ true
    → longer at byte (parts (at + 1) rest ++ behind) ≡ longer at byte (parts (at + 1) rest) ++ behind
longer-front at byte rest behind begins =
    let word = parts-word (at + 1) rest begins in
    ap (λ (ps : List Part). longer at byte (ps ++ behind)) word ∙ ap (λ (ps : List Part). longer at byte ps ++ behind) (sym word)

module _ (more : List ℕ) where
  parts-bar : (at : ℕ) (text : List ℕ) → parts at (text ++ 124 ∷ more) ≡ parts at text ++ bar (at + length text) more
  parts-bar at [] = ap (λ (p : ℕ). bar p more) (omega arith)
  parts-bar at (byte ∷ rest) =
      let place : at + 1 + length rest ≡ at + length (byte ∷ rest) = omega arith in
      let behind = bar (at + length (byte ∷ rest)) more in
      let next : parts (at + 1) (rest ++ 124 ∷ more) ≡ parts (at + 1) rest ++ behind =
      parts-bar (at + 1) rest ∙ ap (λ (p : ℕ). parts (at + 1) rest ++ bar p more) place in
      by_byte at byte rest behind (is_blank byte) (is_word_byte byte) refl refl next
    where
      in_word : (at byte : ℕ) (rest : List ℕ) (behind : List Part) (begins : Bool) → begins_in_word rest ≡ begins
          → parts (at + 1) (rest ++ 124 ∷ more) ≡ parts (at + 1) rest ++ behind
          → cond (begins_in_word (rest ++ 124 ∷ more)) (longer at byte (parts (at + 1) (rest ++ 124 ∷ more))) (Word at (byte ∷ []) ∷ parts (at + 1) (rest ++ 124 ∷ more))
          ≡ cond (begins_in_word rest) (longer at byte (parts (at + 1) rest)) (Word at (byte ∷ []) ∷ parts (at + 1) rest) ++ behind
      in_word at byte rest behind true begins next =
          rw (same-begin rest more, begins, next) (longer-front at byte rest behind begins)
      in_word at byte rest behind false begins next = rw (same-begin rest more, begins, next) refl

      by_byte : (at byte : ℕ) (rest : List ℕ) (behind : List Part) (blank word : Bool) → is_blank byte ≡ blank → is_word_byte byte ≡ word
          → parts (at + 1) (rest ++ 124 ∷ more) ≡ parts (at + 1) rest ++ behind
          → parts at (byte ∷ (rest ++ 124 ∷ more)) ≡ parts at (byte ∷ rest) ++ behind
      by_byte at byte rest behind true word blank_is word_is next = rw blank_is next
      by_byte at byte rest behind false true blank_is word_is next = rw (blank_is, word_is) (in_word at byte rest behind (begins_in_word rest) refl next)
      by_byte at byte rest behind false false blank_is word_is next = rw (blank_is, word_is) (ap (λ (ps : List Part). Mark at byte ∷ ps) next)

-- ---- the members

-- there is none yet; or a text spells them
abbrev Spelled : ℕ → List ℕ → Type 0
Spelled set text =
    ((set ≡ 0) × (text ≡ []))
    ⊎ ((byte : ℕ) × (rest : List ℕ) × (text ≡ byte ∷ rest) × Spells Expression MOST_OPEN (parts 0 text) (set_of set))

first-spelled : (name : List ℕ) (set : ℕ) → IsWord name set → Spelled set name
first-spelled [] set word = absurd (let none : [] ≡ Word 0 [] ∷ [] = (word 0).0 in cc none)
first-spelled (byte ∷ rest) set word =
    let name = byte ∷ rest in
    let P : List Part → Type 0 = λ ps. Spells Expression MOST_OPEN ps (set_of set) in
    let one : P (Word 0 name ∷ []) = single MOST_OPEN (Word 0 name ∷ []) (set_of set) (value MOST_OPEN 0 set name (word 0).1) in
    inr (byte, rest, refl, subst P (sym (word 0).0) one)

more-spelled : (byte : ℕ) (rest name : List ℕ) (before set all : ℕ) → IsWord name set → Spells Expression MOST_OPEN (parts 0 (byte ∷ rest)) (set_of before)
    → union (set_of before) (set_of set) ≡ set_of all → Spelled all (byte ∷ (rest ++ 124 ∷ name))
more-spelled byte rest name before set all word spells both_are =
    let text = byte ∷ rest in
    let at = 0 + length text in
    let P : List Part → Type 0 = λ ps. Spells Expression MOST_OPEN ps (set_of all) in
    let Q : FeedSet → Type 0 = λ s. Spells Expression MOST_OPEN (parts 0 text ++ Mark at 124 ∷ Word (at + 1) name ∷ []) s in
    let both_spelled : Q (union (set_of before) (set_of set)) =
    joined MOST_OPEN at 124 union (parts 0 text) (Word (at + 1) name ∷ []) (set_of before) (set_of set) refl spells
    (value MOST_OPEN (at + 1) set name (word (at + 1)).1) in
    let parts_are : parts 0 (text ++ 124 ∷ name) ≡ parts 0 text ++ Mark at 124 ∷ Word (at + 1) name ∷ [] =
    parts-bar name 0 text ∙ ap (λ (ps : List Part). parts 0 text ++ Mark at 124 ∷ ps) (word (at + 1)).0 in
    inr (byte, rest ++ 124 ∷ name, refl, subst P (sym parts_are) (subst Q both_are both_spelled))

with-bit : (set bit : ℕ) → bit_at set bit ≡ 1 → set % 2 ^ suc bit ≡ 2 ^ bit + set % 2 ^ bit
with-bit set bit one =
    let next : suc bit ≡ 1 + bit = omega arith in
    let split : set % 2 ^ suc bit ≡ bit_at set bit * 2 ^ bit + set % 2 ^ bit = ap (λ (m : ℕ). set % 2 ^ m) next ∙ mod-pow-add set 1 bit in
    let all : bit_at set bit * 2 ^ bit ≡ 1 * 2 ^ bit = ap (λ (b : ℕ). b * 2 ^ bit) one in
    omega (arith, split, all)

without-bit : (set bit : ℕ) → bit_at set bit ≡ 0 → set % 2 ^ suc bit ≡ set % 2 ^ bit
without-bit set bit none =
    let next : suc bit ≡ 1 + bit = omega arith in
    let split : set % 2 ^ suc bit ≡ bit_at set bit * 2 ^ bit + set % 2 ^ bit = ap (λ (m : ℕ). set % 2 ^ m) next ∙ mod-pow-add set 1 bit in
    let all : bit_at set bit * 2 ^ bit ≡ 0 * 2 ^ bit = ap (λ (b : ℕ). b * 2 ^ bit) none in
    omega (arith, split, all)

joined-set : (set bit : ℕ) → bit_at set bit ≡ 1 → union (set_of (set % 2 ^ bit)) (set_of (2 ^ bit)) ≡ set_of (set % 2 ^ suc bit)
joined-set set bit one =
    let some = pow_pos bit in
    let low : set % 2 ^ bit < 2 ^ bit = omega (arith, some) in
    let apart : bit_and (set % 2 ^ bit) (2 ^ bit) ≡ 0 =
    and_pow (set % 2 ^ bit) bit ∙ ap (λ (b : ℕ). b * 2 ^ bit) (bit_at_above (set % 2 ^ bit) bit bit low (omega arith)) ∙ omega arith in
    let sum : bit_or (set % 2 ^ bit) (2 ^ bit) ≡ set % 2 ^ suc bit = omega (arith, or_add_and (set % 2 ^ bit) (2 ^ bit), apart, with-bit set bit one) in
    sym (set_of-or (set % 2 ^ bit) (2 ^ bit)) ∙ ap set_of sum

one-more : (set bit : ℕ) (text : List ℕ) → bit < 32 → bit_at set bit ≡ 1 → Spelled (set % 2 ^ bit) text → Spelled (set % 2 ^ suc bit) (listed text (member_name bit))
one-more set bit text h one (inl (none, empty)) =
    let all : 2 ^ bit ≡ set % 2 ^ suc bit = omega (arith, with-bit set bit one, none) in
    let P : ℕ → Type 0 = λ n. Spelled n (member_name bit) in
    let Q : List ℕ → Type 0 = λ before. Spelled (set % 2 ^ suc bit) (listed before (member_name bit)) in
    subst Q (sym empty) (subst P all (first-spelled (member_name bit) (2 ^ bit) (member-word bit h)))
one-more set bit text h one (inr (byte, rest, is, spells)) =
    let P : List ℕ → Type 0 = λ before. Spells Expression MOST_OPEN (parts 0 before) (set_of (set % 2 ^ bit)) in
    let Q : List ℕ → Type 0 = λ before. Spelled (set % 2 ^ suc bit) (listed before (member_name bit)) in
    subst Q (sym is)
    (more-spelled byte rest (member_name bit) (set % 2 ^ bit) (2 ^ bit) (set % 2 ^ suc bit) (member-word bit h) (subst P is spells) (joined-set set bit one))

no-bit : (set bit : ℕ) → eqb (bit_at set bit) 1 ≡ false → bit_at set bit ≡ 0
no-bit set bit other = let low = bit_at-lt set bit in let not_one = eqb-false (bit_at set bit) 1 other in omega (arith, low, not_one)

members-spelled : (bit set : ℕ) → bit ≤ 32 → Spelled (set % 2 ^ bit) (members_text bit set)
unfolding members_text
members-spelled zero set h = inl (omega arith, refl)
members-spelled (suc bit) set h =
    let before = members-spelled bit set (omega arith) in
    elim (cases_Bool (eqb (bit_at set bit) 1)) [
      | inl one ↦ rw one (one-more set bit (members_text bit set) (omega arith) (eqb-true (bit_at set bit) 1 one) before)
      | inr other ↦
          rw other (subst (λ (n : ℕ). Spelled n (members_text bit set)) (sym (without-bit set bit (no-bit set bit other))) before)
    ]

-- ---- the whole text

named-read : (name : List ℕ) (set : ℕ) → IsWord name set → feed_set name ≡ Ok (set_of set)
named-read name set word =
    ap (λ (ps : List Part). reading (length name) ps (Wanted whole [])) (word 0).0
    ∙ ap (λ (number : Result ℕ FeedFault). and_then (valued whole [] number) (reading (length name) [])) (word 0).1

members-read : (set : ℕ) → set < 2 ^ 32 → (set ≡ 0 → ⊥) → feed_set (members_text 32 set) ≡ Ok (set_of set)
members-read set small some =
    let text = members_text 32 set in
    let all : set % 2 ^ 32 ≡ set = omega arith in
    elim (members-spelled 32 set (omega arith)) [
      | inl none ↦ absurd (some (sym all ∙ none.0))
      | inr spelled ↦
          (reading-spells (length text) (parts 0 text) (set_of (set % 2 ^ 32))).1 spelled.3 ∙ ap (λ (n : ℕ). Ok (set_of n)) all
    ]

none-named : (set : ℕ) → set ≡ 0 → is_some (first_named feed_names set) ≡ true
unfolding feed_names
none-named set is = rw is refl

pub feeds-read : (set : ℕ) → set < 2 ^ 32 → feed_set (feeds_text set) ≡ Ok (set_of set)
unfolding feeds_text
feeds-read set small = go (first_named feed_names set) refl
  where
    go : (found : Option (List ℕ)) → first_named feed_names set ≡ found → feed_set (unwrap_or found (members_text 32 set)) ≡ Ok (set_of set)
    go None is = members-read set small (λ none. let some : is_some {T = List ℕ} None ≡ true = ap is_some (sym is) ∙ none-named set none in cc some)
    go (Some name) is = named-read name set (found-word feed_names table-words set name is)

pub feeds-number : (set : ℕ) → set < 2 ^ 32 → feed_number (feeds_text set) ≡ Some set
feeds-number set small =
    ap (λ (found : Result FeedSet FeedFault). option_map number_of (result_ok found)) (feeds-read set small)
    ∙ ap (λ (n : ℕ). Some n) (number_of-set_of set small)

-- ---- what the loop over bits writes

pub listed-some : (before name : List ℕ) → (length before ≡ 0 → ⊥) → listed before name ≡ before ++ 124 ∷ name
listed-some [] name some = absurd (some refl)
listed-some (byte ∷ before) name some = refl

pub member-more : (bit set : ℕ) (text new : List ℕ) → text ≡ members_text bit set → bit_and (set / 2 ^ bit) 1 ≡ 1 → new ≡ listed text (member_name bit)
    → new ≡ members_text (bit + 1) set
unfolding members_text
member-more bit set text new is one new_is =
    let there : bit_at set bit ≡ 1 = sym (shr_and_one set bit) ∙ one in
    rw (add-one, there) (new_is ∙ ap (λ (before : List ℕ). listed before (member_name bit)) is)

pub member-none : (bit set : ℕ) (text : List ℕ) → text ≡ members_text bit set → (bit_and (set / 2 ^ bit) 1 ≡ 1 → ⊥) → text ≡ members_text (bit + 1) set
unfolding members_text
member-none bit set text is other =
    let low = bit_at-lt set bit in
    let not_one : bit_at set bit ≡ 1 → ⊥ = λ one. other (shr_and_one set bit ∙ one) in
    let none : bit_at set bit ≡ 0 = omega (arith, low, not_one) in
    rw (add-one, none) is

-- the text that is found

pub feeds-named : (found : Option (Bor (List ℕ))) (name : Bor (List ℕ)) (set : ℕ) (text : List ℕ) → option_copied found ≡ first_named feed_names set
    → found ≡ Some name → text ≡ name.now → text ≡ feeds_text set
unfolding feeds_text
feeds-named found name set text same is text_is =
    let named : Some name.now ≡ first_named feed_names set = ap option_copied (sym is) ∙ same in
    text_is ∙ ap (λ (o : Option (List ℕ)). unwrap_or o (members_text 32 set)) named

pub feeds-members : (found : Option (Bor (List ℕ))) (set : ℕ) (text : List ℕ) → option_copied found ≡ first_named feed_names set → found ≡ None
    → text ≡ members_text 32 set → text ≡ feeds_text set
unfolding feeds_text
feeds-members found set text same is text_is =
    let named : None ≡ first_named feed_names set = ap option_copied (sym is) ∙ same in
    text_is ∙ ap (λ (o : Option (List ℕ)). unwrap_or o (members_text 32 set)) named
