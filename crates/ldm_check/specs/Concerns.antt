-- What is warned of in a line or an entry: what is seen of a pattern without reading it, and of a path or the name of a
-- program.
use Rattle.std.specs.Prelude.{ℕ, Bool, true, false, ◌==◌, ◌&&◌, ◌||◌, nat_le, if◌then◌else◌, List, [], ◌∷◌, ◌++◌, codes, take, drop, Option, Some, None}
use Rattle.std.specs.List.{position_or_len, prefix_len}
use Rattle.std.specs.Str.{str_eq_ignore_ascii_case}
use Rattle.ldm_text.specs.Blanks.{is_blank}
use Rattle.ldm_feedtype.specs.Reading.{feed_number}
use Rattle.ldm_check.specs.declared.patterns.Place.{Place}
use Rattle.ldm_check.specs.declared.patterns.Place.TheVariants as place
use Rattle.ldm_check.specs.declared.warning.Concern.TheVariants as concern
use Rattle.ldm_check.specs.declared.warnings.RuleWords as code
use Rattle.ldm_check.specs.declared.warnings.TheConstants.{MOST_REQUESTS, USUAL_REQUESTS}
use Rattle.ldm_check.specs.Warnings.{Warning, NoTool, OfLine}

-- ---- patterns

-- the place of the byte behind one that is outside brackets and stands for itself
abbrev pub behind_plain : ℕ → Place
behind_plain byte =
    if byte == 92 then place.Escaped
    else if byte == 91 then place.Class
    else if byte == 40 then place.Opened
    else place.Plain

-- the place of the byte behind one at that place
abbrev pub place_behind : Place → ℕ → Place
place_behind place.Plain byte = behind_plain byte
place_behind place.Escaped byte = place.Plain
place_behind place.Class byte =
    if byte == 92 then place.EscapedInClass else if byte == 93 then place.Plain else place.Class
place_behind place.EscapedInClass byte = place.Class
place_behind place.Opened byte = if byte == 63 then place.Flags else behind_plain byte
place_behind place.Flags byte = if byte == 58 || byte == 41 || byte == 62 then place.Plain else place.Flags

-- whether a byte there is found as it is
abbrev pub is_literal : Place → Bool
is_literal place.Plain = true
is_literal place.Escaped = false
is_literal place.Class = false
is_literal place.EscapedInClass = false
is_literal place.Opened = true
is_literal place.Flags = false

-- a letter from g to z, of either case: no address has one
abbrev pub is_letter : ℕ → Bool
is_letter byte = nat_le 103 byte && nat_le byte 122 || nat_le 71 byte && nat_le byte 90

-- whether a letter of a name stands for itself in what is left of a pattern, from that place on
abbrev pub has_name_at : Place → List ℕ → Bool
has_name_at at [] = false
has_name_at at (byte ∷ bytes) = is_literal at && is_letter byte || has_name_at (place_behind at byte) bytes

abbrev pub has_name : List ℕ → Bool
has_name pattern = has_name_at place.Plain pattern

-- whether a byte there may be found as a slash or a dot: a dot (46), a slash (47), a negated class (94), or an escape of
-- upper case
abbrev pub may_be_slash : Place → ℕ → Bool
may_be_slash place.Plain byte = byte == 46 || byte == 47
may_be_slash place.Escaped byte = nat_le 65 byte && nat_le byte 90
may_be_slash place.Class byte = byte == 94 || byte == 47
may_be_slash place.EscapedInClass byte = false
may_be_slash place.Opened byte = byte == 46 || byte == 47
may_be_slash place.Flags byte = false

-- the same of what is left of a pattern, from that place on, where `grouped` says whether a group was opened
abbrev pub may_hold_slash_at : Bool → Place → List ℕ → Bool
may_hold_slash_at grouped at [] = false
may_hold_slash_at grouped at (byte ∷ bytes) =
    grouped && may_be_slash at byte
    || may_hold_slash_at (grouped || is_literal at && byte == 40) (place_behind at byte) bytes

-- whether a group of a pattern may hold a slash or a dot
abbrev pub may_hold_slash : List ℕ → Bool
may_hold_slash pattern = may_hold_slash_at false place.Plain pattern

-- ---- paths and programs

-- a digit from 1 to 9
abbrev pub is_group : ℕ → Bool
is_group byte = nat_le 49 byte && nat_le byte 57

-- whether a form `\1` to `\9` stands in what is left of a word; `escaped` says whether a backslash stands before that
abbrev pub names_group_behind : Bool → List ℕ → Bool
names_group_behind escaped [] = false
names_group_behind escaped (byte ∷ bytes) = escaped && is_group byte || names_group_behind (byte == 92) bytes

abbrev pub names_group : List ℕ → Bool
names_group word = names_group_behind false word

-- the second field of a line, between its first tabs and the next one: the pattern of an entry
abbrev pub field_of : List ℕ → List ℕ
field_of field = take (position_or_len (λ byte. byte == 9) field) field

abbrev pub behind_blanks : List ℕ → List ℕ
behind_blanks text = drop (prefix_len is_blank text) text

abbrev pub second_field : List ℕ → List ℕ
second_field line = field_of (behind_blanks (drop (position_or_len (λ byte. byte == 9) line) line))

-- ---- rules

-- whom an ALLOW or an ACCEPT line meets
pub record RuleWords : Type 0 where
  pub feedtype : List ℕ
  pub host : List ℕ

-- `ACCEPT feedtype pattern hostpattern`, by what stands behind the pattern
abbrev pub accept_words : List ℕ → List (List ℕ) → Option RuleWords
accept_words feedtype [] = None
accept_words feedtype (host ∷ words) = Some (record { feedtype = feedtype; host = host })

-- by the keyword, and the words behind it
abbrev pub by_keyword : List ℕ → List ℕ → List ℕ → List (List ℕ) → Option RuleWords
by_keyword keyword feedtype word words =
    if str_eq_ignore_ascii_case (codes "ALLOW") keyword then Some (record { feedtype = feedtype; host = word })
    else if str_eq_ignore_ascii_case (codes "ACCEPT") keyword then accept_words feedtype words
    else None

-- by the words of a line
abbrev pub rule_words : List (List ℕ) → Option RuleWords
rule_words [] = None
rule_words (keyword ∷ []) = None
rule_words (keyword ∷ feedtype ∷ []) = None
rule_words (keyword ∷ feedtype ∷ word ∷ words) = by_keyword keyword feedtype word words

-- what contracts see of the words of a rule
abbrev pub rule_view : Option code.RuleWords → Option RuleWords
rule_view None = None
rule_view (Some rule) = Some (record { feedtype = rule.feedtype.now; host = rule.host.now })

-- whether a feedtype has no member, as NONE
abbrev pub is_empty : Option ℕ → Bool
is_empty None = false
is_empty (Some feed) = feed == 0

abbrev pub is_none : List ℕ → Bool
is_none feedtype = is_empty (feed_number feedtype)

-- ---- what is warned of

-- in an entry that begins in that line of a file, and whose path or program is that word
abbrev pub word_warnings : List ℕ → ℕ → List ℕ → List ℕ → List Warning
word_warnings path number line word =
    if names_group word && may_hold_slash (second_field line) then OfLine path number concern.GroupInPath ∷ [] else []

-- in an entry that has these words
abbrev pub entry_warnings : List ℕ → ℕ → List ℕ → List (List ℕ) → List Warning
entry_warnings path number line [] = []
entry_warnings path number line (word ∷ words) = word_warnings path number line word

-- in a line that meets some feedtype, and some hosts
abbrev pub feedtype_warnings : List ℕ → ℕ → List ℕ → List Warning
feedtype_warnings path number feedtype = if is_none feedtype then OfLine path number concern.NoMember ∷ [] else []

abbrev pub host_warnings : List ℕ → ℕ → List ℕ → List Warning
host_warnings path number host = if has_name host then OfLine path number concern.HasName ∷ [] else []

-- in a line, if it is an ALLOW or an ACCEPT line
abbrev pub rule_warnings : List ℕ → ℕ → Option RuleWords → List Warning
rule_warnings path number None = []
rule_warnings path number (Some rule) =
    feedtype_warnings path number rule.feedtype ++ host_warnings path number rule.host

-- at a REQUEST line, where so many stand before it
abbrev pub request_warnings : List ℕ → ℕ → ℕ → List Warning
request_warnings path number before =
    if before == USUAL_REQUESTS then OfLine path number concern.FewWorkers ∷ []
    else if before == MOST_REQUESTS then OfLine path number concern.NoWorker ∷ []
    else []

-- in a line that asks for this, where so many REQUEST lines stand before it
abbrev pub asking_warnings : {A : Type 0} → List ℕ → ℕ → ℕ → List A → List Warning
asking_warnings path number before [] = []
asking_warnings path number before (request ∷ requests) = request_warnings path number before

-- at the end of an ldmd.conf, where some ALLOW line lets a tool of this machine in, or none does
abbrev pub end_warnings : List ℕ → Bool → List Warning
end_warnings path lets_in = if lets_in then [] else NoTool path ∷ []
