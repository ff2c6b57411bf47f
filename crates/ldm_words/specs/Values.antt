-- What the values of options and words mean.
use Rattle.std.specs.Prelude.{◌≡◌, ℕ, ◌-◌, ◌^◌, Bool, false, true, ◌==◌, ◌&&◌, ◌||◌, nat_le, nat_lt, if◌then◌else◌, List, [], ◌∷◌, length, map, Option, Some, None, is_none, is_some, codes}
use Rattle.std.specs.Borrow.{Bor}
use Rattle.std.specs.List.{list_all, list_any}
use Rattle.std.specs.Option.{option_map_or}
use Rattle.std.specs.Str.{bytes_eq}
use Rattle.clap.specs.Words.{Row, Text, all_of, first_of}
use Rattle.ldm_types.specs.declared.class.ClassSpec.{ClassSpec}
use Rattle.ldm_types.specs.declared.limits.TheConstants.{LONGEST_PATTERN}
use Rattle.ldm_types.specs.Info.{texts_fault}
use Rattle.ldm_class.specs.Classes.{bad_place, is_resumption, resumed}
use Rattle.ldm_conf.specs.Addresses.{Address, address_of}
use Rattle.ldm_conf.specs.Confs.{all_times}
use Rattle.ldm_feedtype.specs.Reading.{feed_number}
use Rattle.ldm_answers.specs.Number.{number_up_to}
use Rattle.ldm_words.specs.declared.limits.TheConstants.{MOST_CLASSES, MOST_HOURS}

infixl 10 ◌>>=◌
abbrev pub ◌>>=◌ : {A B : Type 0} → Option A → (A → Option B) → Option B
None >>= more = None
(Some x) >>= more = more x

-- what the value of an option or a word means
abbrev pub said : {A : Type 0} → (Text → Option A) → Text → List Row → Option A
said read name rows = first_of name rows >>= read

-- what an option means that may be left out
abbrev pub optional : {A : Type 0} → (Text → Option A) → Option Text → Option (Option A)
optional read None = Some None
optional read (Some text) = read text >>= λ value. Some (Some value)

-- numbers of 64 and of 32 bits
abbrev pub long_number : Text → Option ℕ
long_number = number_up_to (2 ^ 64 - 1)

abbrev pub short_number : Text → Option ℕ
short_number = number_up_to (2 ^ 32 - 1)

-- a number that is not 0
abbrev pub positive : ℕ → Option ℕ
positive n = if n == 0 then None else Some n

-- a count of products: at least 1
abbrev pub count_of : Text → Option ℕ
count_of text = long_number text >>= positive

-- seconds between two askings: at least 1
abbrev pub seconds_of : Text → Option ℕ
seconds_of text = short_number text >>= positive

-- hours of statistics: 1 to 8,760
abbrev pub hours_of : Text → Option ℕ
hours_of text = number_up_to MOST_HOURS text >>= positive

-- `HOST:PORT`, cut at its last colon (58)
abbrev pub peer_of : Text → Option Address
peer_of text = if list_any (λ byte. byte == 58) text then address_of text else None

-- a pattern of a class
abbrev pub pattern_of : Text → Option Text
pattern_of text = if nat_le (length text) LONGEST_PATTERN then Some text else None

-- a class, unless a pattern of it means nothing
abbrev pub sound_class : ClassSpec → Option ClassSpec
sound_class class = if is_some (bad_place class.specs.items) then None else Some class

-- the class of the products of all times that have one of the feedtypes in a text and in whose ident a pattern is found
abbrev pub class_in : Text → Text → Option ClassSpec
class_in feed_text pattern_text =
    feed_number feed_text >>= λ feed.
    pattern_of pattern_text >>= λ pattern.
    sound_class (all_times feed pattern)

-- the class that the options for feedtypes and pattern ask for
abbrev pub class_of : List Row → Option ClassSpec
class_of rows =
    first_of (codes "feed") rows >>= λ feed.
    first_of (codes "pattern") rows >>= λ pattern.
    class_in feed pattern

-- the classes that words ask for, two words each: `FEED PATTERN`
abbrev pub classes_of : List Text → Option (List ClassSpec)
classes_of [] = Some []
classes_of (word ∷ []) = None
classes_of (feed ∷ pattern ∷ words) =
    class_in feed pattern >>= λ class.
    classes_of words >>= λ classes.
    Some (class ∷ classes)

-- the classes of a chain, if they are one to seven
abbrev pub few_classes : List ClassSpec → Option (List ClassSpec)
few_classes classes = if nat_lt 0 (length classes) && nat_le (length classes) MOST_CLASSES then Some classes else None

-- whether a class names no product to go on behind, or asks for nothing else
abbrev pub names_alone : ClassSpec → Bool
names_alone class = is_none (resumed class.specs.items) || list_all is_resumption class.specs.items

-- A class of all times: it goes back to the first instant, and if it names a product to go on behind, it asks for nothing else.
abbrev pub IsOfAllTimes : ClassSpec → Type 0
IsOfAllTimes class = (class.from ≡ 0) × (names_alone class ≡ true)

-- whether a flag is used: its value is `true` then, and `false` else
abbrev pub is_used : Option Text → Bool
is_used value = option_map_or (λ text. bytes_eq text (codes "true")) value false

-- the texts that references lend
abbrev pub texts_of : List (Bor Text) → List Text
texts_of texts = map (λ (text : Bor Text). text.now) texts

-- files, if they are not too many
abbrev pub few : List Text → Option (List Text)
few files = if nat_lt (length files) (2 ^ 32) then Some files else None

abbrev pub files_of : List Row → Option (List Text)
files_of rows = all_of (codes "files") rows >>= few

-- the ident of the product of a file: the one that is given, or the file's name
abbrev pub ident_or : Option Text → Text → Text
ident_or (Some ident) file = ident
ident_or None file = file

-- a product may have this origin and this ident
abbrev pub IsName : Text → Text → Type 0
IsName origin ident = texts_fault origin ident ≡ None

-- an origin that products may have
abbrev pub origin_of : Text → Option Text
origin_of text = if is_none (texts_fault text []) then Some text else None

-- whether the product of each file may have this origin and its ident
abbrev pub are_names : Text → Option Text → List Text → Bool
are_names origin ident files = list_all (λ file. is_none (texts_fault origin (ident_or ident file))) files
