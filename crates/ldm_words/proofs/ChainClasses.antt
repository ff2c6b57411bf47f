-- The classes of a chain.
use Rattle.std.proofs.Common.{Global, ◌≡◌, ◌≢◌, ◌≤◌, ◌<◌, ◌-◌, ◌&&◌, ◌||◌, ℕ, Bool, true, false, List, [], ◌∷◌, ◌++◌, map, length, take, drop, get_or, arith, Option, Some, None, is_none, is_some, refl, sym, subst, ap, append_assoc}
use Rattle.std.proofs.lemmas.List.{take_all}
use Rattle.std.specs.Prelude.{if◌then◌else◌, String, string_bytes}
use Rattle.std.specs.List.{AllByRecursion}
use Rattle.std.specs.Option.{option_or}
use Rattle.clap.specs.Words.{Text}
use Rattle.ldm_types.specs.declared.class.ClassSpec.{ClassSpec}
use Rattle.ldm_class.specs.Classes.{bad_place, signature_in}
use Rattle.ldm_conf.specs.Confs.{all_times}
use Rattle.ldm_feedtype.specs.Reading.{feed_number}
use Rattle.ldm_words.specs.Faults.{IsFaultOf}
use Rattle.ldm_words.specs.Forms.{chain_of}
use Rattle.ldm_words.specs.Values.{◌>>=◌, IsOfAllTimes, class_in, classes_of, pattern_of, sound_class}
use Rattle.ldm_words.specs.declared.fault.WordsFault.{WordsFault}
use Rattle.ldm_words.specs.declared.fault.WordsFault.TheVariants.{Usage, OutOfMemory}

-- ---- classes behind others

-- these classes and those behind them
abbrev pub in_front : List ClassSpec → Option (List ClassSpec) → Option (List ClassSpec)
in_front classes None = None
in_front classes (Some behind) = Some (classes ++ behind)

pub one_more : (classes : List ClassSpec) (class : ClassSpec) (behind : Option (List ClassSpec))
    → in_front classes (behind >>= λ others. Some (class ∷ others)) ≡ in_front (classes ++ class ∷ []) behind
one_more classes class None = refl
one_more classes class (Some behind) = ap Some (sym (append_assoc classes (class ∷ []) behind))

-- where a class is read, it goes in front of the others
pub read_one : (classes : List ClassSpec) (class : ClassSpec) (feed pattern : Text) (words : List Text) (whole : Option (List ClassSpec))
    → class_in feed pattern ≡ Some class → in_front classes (classes_of (feed ∷ pattern ∷ words)) ≡ whole
    → in_front (classes ++ class ∷ []) (classes_of words) ≡ whole
read_one classes class feed pattern words whole read is = rw (read, one_more classes class (classes_of words)) at is

-- where one means nothing, all mean nothing
pub fails_at : (classes : List ClassSpec) (feed pattern : Text) (words : List Text) (whole : Option (List ClassSpec)) (fault : WordsFault)
    → IsFaultOf (class_in feed pattern) fault → in_front classes (classes_of (feed ∷ pattern ∷ words)) ≡ whole → IsFaultOf whole fault
fails_at classes feed pattern words whole Usage none is = sym (rw none at is)
fails_at classes feed pattern words whole OutOfMemory none is = tt

-- the words behind a pair whose class is read
pub goes_on : (classes : List ClassSpec) (class : ClassSpec) (left : List (String Global)) (feed pattern : String Global) (whole : Option (List ClassSpec))
    → 2 ≤ length left → feed ≡ get_or left 0 feed → pattern ≡ get_or left 1 pattern → class_in (string_bytes feed) (string_bytes pattern) ≡ Some class
    → in_front classes (classes_of (map string_bytes left)) ≡ whole
    → in_front (classes ++ class ∷ []) (classes_of (map string_bytes (take (length left - 2) (drop 2 left)))) ≡ whole
goes_on classes class [] feed pattern whole two is_feed is_pattern read is = absurd (omega (arith, two))
goes_on classes class (one ∷ []) feed pattern whole two is_feed is_pattern read is = absurd (omega (arith, two))
goes_on classes class (first ∷ second ∷ words) feed pattern whole two is_feed is_pattern read is =
    let same : take (length (first ∷ second ∷ words) - 2) words ≡ words = take_all (length (first ∷ second ∷ words) - 2) words (omega arith) in
    let one : class_in (string_bytes first) (string_bytes second) ≡ Some class = rw (is_feed, is_pattern) at read in
    subst (λ (others : List (String Global)). in_front (classes ++ class ∷ []) (classes_of (map string_bytes others)) ≡ whole) (sym same)
    (read_one classes class (string_bytes first) (string_bytes second) (map string_bytes words) whole one is)

-- one word is left
pub odd : (classes : List ClassSpec) (left : List (String Global)) (whole : Option (List ClassSpec)) → length left < 2 → length left ≢ 0
    → in_front classes (classes_of (map string_bytes left)) ≡ whole → whole ≡ None
odd classes [] whole few some is = absurd (some refl)
odd classes (one ∷ []) whole few some is = sym is
odd classes (first ∷ second ∷ words) whole few some is = absurd (omega (arith, few))

-- less than three words are no form
pub too_few : (conf : Option Text) (words : List (String Global)) → length words < 3 → chain_of conf (map string_bytes words) ≡ None
too_few conf [] few = refl
too_few conf (arena ∷ []) few = refl
too_few conf (arena ∷ slots ∷ []) few = refl
too_few conf (arena ∷ slots ∷ max_hereis ∷ words) few = absurd (omega (arith, few))

-- ---- classes of all times

names : (signature : Option (List ℕ)) → (is_none (option_or signature None) || (is_some signature && true)) ≡ true
names None = refl
names (Some signature) = refl

is_of_all_times : (feed : ℕ) (pattern : List ℕ) → IsOfAllTimes (all_times feed pattern)
is_of_all_times feed pattern = (refl, names (signature_in (record { feed = record { 0 = feed }; pattern = record { items = pattern } })))

same_inside : {A : Type 0} {x y : A} → Some x ≡ Some y → x ≡ y
same_inside e = cc

module _ (class : ClassSpec) where
  tested : (bad : Bool) (of : ClassSpec) → (if bad then None else Some of) ≡ Some class → IsOfAllTimes of → IsOfAllTimes class
  tested true of is times = cc
  tested false of is times = subst IsOfAllTimes (same_inside is) times

  made : (feed : Option ℕ) (pattern : Option Text) → (feed >>= λ f. pattern >>= λ p. sound_class (all_times f p)) ≡ Some class → IsOfAllTimes class
  made None pattern is = cc
  made (Some feed) None is = cc
  made (Some feed) (Some pattern) is = tested (is_some (bad_place (all_times feed pattern).specs.items)) (all_times feed pattern) is (is_of_all_times feed pattern)

-- the classes of pairs of words are of all times
pub are_of_all_times : (words : List Text) (classes : List ClassSpec) → classes_of words ≡ Some classes → AllByRecursion IsOfAllTimes classes
are_of_all_times [] [] is = tt
are_of_all_times [] (class ∷ classes) is = cc
are_of_all_times (word ∷ []) classes is = cc
are_of_all_times (feed ∷ pattern ∷ words) classes is =
    go (class_in feed pattern) (classes_of words) classes (made_of feed pattern) (are_of_all_times words) is
  where
    made_of : (feed pattern : Text) (class : ClassSpec) → class_in feed pattern ≡ Some class → IsOfAllTimes class
    made_of feed pattern class is = made class (feed_number feed) (pattern_of pattern) is

    go : (first : Option ClassSpec) (behind : Option (List ClassSpec)) (classes : List ClassSpec)
        → ((class : ClassSpec) → first ≡ Some class → IsOfAllTimes class)
        → ((others : List ClassSpec) → behind ≡ Some others → AllByRecursion IsOfAllTimes others)
        → (first >>= λ class. behind >>= λ others. Some (class ∷ others)) ≡ Some classes
        → AllByRecursion IsOfAllTimes classes
    go None behind classes one more is = cc
    go (Some class) None classes one more is = cc
    go (Some class) (Some others) [] one more is = cc
    go (Some class) (Some others) (first ∷ rest) one more is = subst (AllByRecursion IsOfAllTimes) (same_inside is) (one class refl, more others refl)
