-- What a line says, by its words.
use Rattle.std.proofs.Common.{◌≡◌, ℕ, ◌<◌, inl, inr, true, false, List, [], ◌∷◌, length, None, Some, Ok, Err, refl, arith}
use Rattle.ldm_text.specs.Words.{Words, none_left, with_first, words_of}
use Rattle.ldm_text.specs.declared.words.Comments.TheVariants.{Hash}
use Rattle.ldm_conf.specs.declared.fault.ConfKind.{ConfKind}
use Rattle.ldm_conf.specs.declared.fault.ConfKind.TheVariants as kind
use Rattle.ldm_conf.specs.declared.keyword.Keyword.{Keyword}
use Rattle.ldm_conf.specs.declared.keyword.Keyword.TheVariants.{Allow, Accept, Request, Exec, Include}
use Rattle.ldm_conf.specs.Confs.{Directive, has_bad_pattern}
use Rattle.ldm_conf.specs.Keywords.{keyword_of}
use Rattle.ldm_conf.specs.Kept.{IsBad}
use Rattle.ldm_conf.specs.LineFaults.{IsKindOf}
use Rattle.ldm_conf.specs.Lines.{without_return}
use Rattle.ldm_conf.specs.Statements.{Statement, Adds, Blank, behind_keyword, meaning_of, said, statement_of, with_patterns}

-- what holds of more than four words
five : (P : List (List ℕ) → Type 0) → ((a b c d e : List ℕ) (rest : List (List ℕ)) → P (a ∷ b ∷ c ∷ d ∷ e ∷ rest)) → (words : List (List ℕ)) → 4 < length words → P words
five P long [] h = absurd (omega arith)
five P long (a ∷ []) h = absurd (omega arith)
five P long (a ∷ b ∷ []) h = absurd (omega arith)
five P long (a ∷ b ∷ c ∷ []) h = absurd (omega arith)
five P long (a ∷ b ∷ c ∷ d ∷ []) h = absurd (omega arith)
five P long (a ∷ b ∷ c ∷ d ∷ e ∷ rest) h = long a b c d e rest

-- no line has more than four words behind its keyword
too_many : (keyword : Keyword) (words : List (List ℕ)) → 4 < length words → said keyword words ≡ Err kind.Fields
too_many Allow = five (λ words. said Allow words ≡ Err kind.Fields) (λ a b c d e rest. refl)
too_many Accept = five (λ words. said Accept words ≡ Err kind.Fields) (λ a b c d e rest. refl)
too_many Request = five (λ words. said Request words ≡ Err kind.Fields) (λ a b c d e rest. refl)
too_many Exec = five (λ words. said Exec words ≡ Err kind.Fields) (λ a b c d e rest. refl)
too_many Include = five (λ words. said Include words ≡ Err kind.Fields) (λ a b c d e rest. refl)

-- words that are wrong
pub bad : (keyword : Keyword) (read : Words) → IsBad read → behind_keyword read.words read.sound keyword ≡ Err kind.Fields
bad keyword read (inl wrong) = rw wrong refl
bad keyword read (inr many) =
    elim read.sound as (λ b. behind_keyword read.words b keyword ≡ Err kind.Fields) [
      | true ↦ too_many keyword read.words many
      | false ↦ refl
    ]

module _ (line : List ℕ) where
  pub blank : words_of Hash (without_return line) ≡ none_left true → statement_of line ≡ Ok Blank
  unfolding statement_of
  blank is = rw is refl

  pub wrong : words_of Hash (without_return line) ≡ none_left false → statement_of line ≡ Err kind.Fields
  unfolding statement_of
  wrong is = rw is refl

  module _ (word : List ℕ) (others : Words) (is : words_of Hash (without_return line) ≡ with_first word others) where
    pub no_keyword : keyword_of word ≡ None → statement_of line ≡ Err kind.Keyword
    unfolding statement_of
    no_keyword none = rw (is, none) refl

    pub by_keyword : (keyword : Keyword) → keyword_of word ≡ Some keyword → statement_of line ≡ behind_keyword others.words others.sound keyword
    unfolding statement_of
    by_keyword keyword named = rw (is, named) refl

module _ (line : List ℕ) where
  -- the fault of what a line says is that of the line
  pub of_statement : (cause : ConfKind) → IsKindOf (statement_of line) cause → IsKindOf (meaning_of line) cause
  unfolding meaning_of
  of_statement kind.Keyword is = rw is refl
  of_statement kind.Fields is = rw is refl
  of_statement kind.Feed is = rw is refl
  of_statement kind.Pattern is = rw is refl
  of_statement kind.Depth is = is
  of_statement kind.Store is = is
  of_statement kind.Long is = is
  of_statement kind.OutOfMemory is = tt

  module _ (statement : Statement) (says : statement_of line ≡ Ok statement) where
    -- and so is that of its patterns
    pub of_patterns : (cause : ConfKind) → IsKindOf (with_patterns statement) cause → IsKindOf (meaning_of line) cause
    unfolding meaning_of
    of_patterns kind.Keyword is = rw (says, is) refl
    of_patterns kind.Fields is = rw (says, is) refl
    of_patterns kind.Feed is = rw (says, is) refl
    of_patterns kind.Pattern is = rw (says, is) refl
    of_patterns kind.Depth is = is
    of_patterns kind.Store is = is
    of_patterns kind.Long is = is
    of_patterns kind.OutOfMemory is = tt

    -- a line whose patterns mean something
    pub means : (meaning : Statement) → with_patterns statement ≡ Ok meaning → meaning_of line ≡ Ok meaning
    unfolding meaning_of
    means meaning is = rw says is

pub no_bad_pattern : (directive : Directive) → has_bad_pattern directive ≡ false → with_patterns (Adds directive) ≡ Ok (Adds directive)
no_bad_pattern directive h = rw h refl
