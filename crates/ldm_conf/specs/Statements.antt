-- What a line says, or the first of its faults.
use Rattle.std.specs.Prelude.{ℕ, Bool, nat_le, if◌then◌else◌, List, [], ◌∷◌, length, Some, None, Result, Ok, Err}
use Rattle.std.specs.Option.{ok_or}
use Rattle.std.specs.Str.{is_utf8}
use Rattle.ldm_text.specs.Words.{words_of}
use Rattle.ldm_text.specs.declared.words.Comments.TheVariants.{Hash}
use Rattle.ldm_feedtype.specs.Reading.{feed_number}
use Rattle.ldm_types.specs.declared.limits.TheConstants.{LONGEST_PATTERN}
use Rattle.ldm_class.specs.Rules.{allow_rule, accept_rule}
use Rattle.ldm_conf.specs.declared.fault.ConfKind.{ConfKind}
use Rattle.ldm_conf.specs.declared.fault.ConfKind.TheVariants as kind
use Rattle.ldm_conf.specs.declared.keyword.Keyword.{Keyword}
use Rattle.ldm_conf.specs.declared.keyword.Keyword.TheVariants as keyword
use Rattle.ldm_conf.specs.declared.transfer.Transfer.{Transfer}
use Rattle.ldm_conf.specs.declared.transfer.Transfer.TheVariants.{Alternate}
use Rattle.ldm_conf.specs.Addresses.{Address, address_of}
use Rattle.ldm_conf.specs.Commands.{is_command, parts_of}
use Rattle.ldm_conf.specs.Confs.{Directive, Allow, Accept, Request, Exec, all_times, has_bad_pattern}
use Rattle.ldm_conf.specs.Keywords.{keyword_of}
use Rattle.ldm_conf.specs.Lines.{without_return}
use Rattle.ldm_conf.specs.Transfers.{transfer_of}

pub data Statement : Type 0 where
  -- it has no word
  Blank : Statement
  -- it adds to the configuration
  Adds : (directive : Directive) → Statement
  -- the lines of the file under that path stand here
  Includes : (path : List ℕ) → Statement

infixl 10 ◌>>=◌
abbrev pub ◌>>=◌ : {A B : Type 0} → Result A ConfKind → (A → Result B ConfKind) → Result B ConfKind
(Ok x) >>= more = more x
(Err fault) >>= more = Err fault

abbrev pub feed_of : List ℕ → Result ℕ ConfKind
feed_of word = ok_or (feed_number word) kind.Feed

-- a line that adds to the configuration, by its feedtype
abbrev pub adding : List ℕ → (ℕ → Directive) → Result Statement ConfKind
adding feedtype directive = feed_of feedtype >>= λ feed. Ok (Adds (directive feed))

-- what a line says by the words behind its keyword: `ALLOW feedtype hostpattern [okpattern [notpattern]]`
abbrev pub allowing : List (List ℕ) → Result Statement ConfKind
allowing (feedtype ∷ host ∷ []) = adding feedtype (λ feed. Allow (allow_rule feed host None None))
allowing (feedtype ∷ host ∷ ok ∷ []) = adding feedtype (λ feed. Allow (allow_rule feed host (Some ok) None))
allowing (feedtype ∷ host ∷ ok ∷ not ∷ []) = adding feedtype (λ feed. Allow (allow_rule feed host (Some ok) (Some not)))
allowing words = Err kind.Fields

-- `ACCEPT feedtype pattern hostpattern`
abbrev pub accepting : List (List ℕ) → Result Statement ConfKind
accepting (feedtype ∷ pattern ∷ host ∷ []) = adding feedtype (λ feed. Accept (accept_rule feed pattern host))
accepting words = Err kind.Fields

-- a pattern has at most so many bytes in a class
abbrev pub asking_for : List ℕ → List ℕ → Transfer → Address → Result Statement ConfKind
asking_for feedtype pattern transfer address =
    if nat_le (length pattern) LONGEST_PATTERN
    then adding feedtype (λ feed. Request (record { class = all_times feed pattern; host = address.host; port = address.port; transfer = transfer }))
    else Err kind.Fields

abbrev pub asking_at : List ℕ → List ℕ → List ℕ → Transfer → Result Statement ConfKind
asking_at feedtype pattern address transfer = ok_or (address_of address) kind.Fields >>= asking_for feedtype pattern transfer

-- `REQUEST feedtype pattern host[:port] [PRIMARY|ALTERNATE]`, which without a word says ALTERNATE
abbrev pub requesting : List (List ℕ) → Result Statement ConfKind
requesting (feedtype ∷ pattern ∷ address ∷ []) = asking_at feedtype pattern address Alternate
requesting (feedtype ∷ pattern ∷ address ∷ transfer ∷ []) = ok_or (transfer_of transfer) kind.Fields >>= asking_at feedtype pattern address
requesting words = Err kind.Fields

-- `EXEC command`
abbrev pub executing : List (List ℕ) → Result Statement ConfKind
executing (command ∷ []) = if is_command command then Ok (Adds (Exec (parts_of command))) else Err kind.Fields
executing words = Err kind.Fields

-- `INCLUDE path`
abbrev pub including : List (List ℕ) → Result Statement ConfKind
including (path ∷ []) = if is_utf8 path then Ok (Includes path) else Err kind.Fields
including words = Err kind.Fields

abbrev pub said : Keyword → List (List ℕ) → Result Statement ConfKind
said keyword.Allow words = allowing words
said keyword.Accept words = accepting words
said keyword.Request words = requesting words
said keyword.Exec words = executing words
said keyword.Include words = including words

-- the keyword is tested first, then the quotes
abbrev pub behind_keyword : List (List ℕ) → Bool → Keyword → Result Statement ConfKind
behind_keyword words sound keyword = if sound then said keyword words else Err kind.Fields

abbrev pub by_words : List (List ℕ) → Bool → Result Statement ConfKind
by_words [] sound = if sound then Ok Blank else Err kind.Fields
by_words (word ∷ words) sound = ok_or (keyword_of word) kind.Keyword >>= behind_keyword words sound

-- what a line says, if its patterns mean something
unfoldable pub statement_of : List ℕ → Result Statement ConfKind
statement_of line = let read = words_of Hash (without_return line) in by_words read.words read.sound

-- the patterns are tested last
abbrev pub with_patterns : Statement → Result Statement ConfKind
with_patterns Blank = Ok Blank
with_patterns (Adds directive) = if has_bad_pattern directive then Err kind.Pattern else Ok (Adds directive)
with_patterns (Includes path) = Ok (Includes path)

-- what a line means, or its first fault: keyword, words and their forms, feedtype, patterns
unfoldable pub meaning_of : List ℕ → Result Statement ConfKind
meaning_of line = statement_of line >>= with_patterns
